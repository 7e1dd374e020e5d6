-- `strftime::measuring::converted_length` meets its contract: one return for each form.
use mathlib.Core.Logic.{inl, inr}
use mathlib.Core.Path.{refl, ◌∙◌}
use native.Mathlib.Omega.{arith}
use Prim.Native.Nat.{◌^◌, ◌≤◌, ◌<◌}
use mathlib.Core.Bool.{true}
use mathlib.Core.Path.{◌≡◌}
use Rattle.conversions.specs.declared.conversions.Form.{Form}
use Rattle.values.specs.Values.{value}
use Rattle.conversions.specs.Conversions.{is_number}
use Rattle.conversions.specs.Pieces.{unstyled}
use Rattle.converted.specs.Converted.{converted, formed}
use Rattle.converted.proofs.Lengths.{by_form, plain_length, plain_name_length}
use Rattle.strftime.proofs.Lengths.{room_of}
use Rattle.strftime.proofs.measuring.converted_length.Goals as goal

-- a number, whose width has room for it
pub returns-in-Zeros : goal.returns-in-Zeros
unfolding formed is_number
returns-in-Zeros c =
    elim c.in-Zeros.is [
      | inl e ↦ let r = room e refl in rw (form e) (plain_length 48 _ _ r.0 r.1)
      | inr b ↦ elim b [
        | inl e ↦ let r = room e refl in rw (form e) (plain_length 32 _ _ r.0 r.1)
        | inr e ↦ let r = room e refl in rw (form e) (plain_length 48 _ _ r.0 (omega (arith, r.1)))
      ]
    ]
  where
    form : {f : Form} → c.args.c.form ≡ f → converted unstyled c.args.c c.args.moment
        ≡ formed c.args.moment unstyled f c.args.c.width (value c.args.c.kind c.args.moment)
    form e = by_form unstyled c.args.c c.args.moment e refl

    room : {f : Form} → c.args.c.form ≡ f → is_number f ≡ true → (1 ≤ c.args.c.width)
        × (value c.args.c.kind c.args.moment < 10 ^ c.args.c.width)
    room e n = room_of c.args.c c.args.moment c.requires e n refl

pub returns-in-Short : goal.returns-in-Short
unfolding formed
returns-in-Short c =
    let a = c.args in
    rw (by_form unstyled a.c a.moment c.in-Short.is c.value.ensures) (c.short_length.ensures ∙ plain_name_length _ _)

pub returns-in-Full : goal.returns-in-Full
unfolding formed
returns-in-Full c =
    let a = c.args in
    elim c.in-Full.is [
      | inl e ↦ rw (by_form unstyled a.c a.moment e c.value-in-Full.ensures) (c.full_length.ensures ∙ plain_name_length _ _)
      | inr e ↦ rw (by_form unstyled a.c a.moment e c.value-in-Full.ensures) (c.full_length.ensures ∙ plain_name_length _ _)
    ]

pub returns-in-Zone : goal.returns-in-Zone
unfolding converted formed
returns-in-Zone c = rw c.in-Zone.is c.zone_length.ensures

pub returns-in-Seconds : goal.returns-in-Seconds
unfolding converted formed
returns-in-Seconds c = rw c.in-Seconds.is c.seconds_length.ensures

pub returns-in-Unknown : goal.returns-in-Unknown
unfolding converted formed
returns-in-Unknown c = rw c.in-Unknown.is
