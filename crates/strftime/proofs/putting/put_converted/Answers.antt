-- `strftime::putting::put_converted` meets its contract: each form puts what it writes, a number on its own width.
use Prim.Native.Nat.{◌+◌, ◌%◌, ◌^◌, ◌≤◌, ◌<◌}
use mathlib.Core.Bool.{true}
use mathlib.Core.Path.{◌≡◌, refl, sym}
use native.Mathlib.Nat.{add-zero}
use native.Mathlib.Omega.{arith}
use lib.ListN.{length, length-take}
use Rattle.names.specs.Naming.{name_for}
use Rattle.conversions.specs.Conversions.{is_number}
use Rattle.conversions.specs.Pieces.{unstyled}
use Rattle.conversions.specs.declared.conversions.Form.{Form}
use Rattle.names.specs.declared.names.Case.TheVariants.{AsIs, Small}
use Rattle.converted.specs.Converted.{formed, converted}
use Rattle.converted.proofs.Lengths.{by_form, plain_length, plain_name_length, number_plain, name_plain, letters_taken, name_taken}
use Rattle.strftime.proofs.Lengths.{room_of}
use Rattle.strftime.proofs.putting.put_converted.Goals as goal
use Rattle.strftime.proofs.putting.put_converted.Goals.{After-value_of-value}

module _ (c : After-value_of-value) {f : Form} (e : c.args.c.form ≡ f) where
  written
      : converted unstyled c.args.c c.args.moment
      ≡ formed c.args.moment unstyled f c.args.c.width c.value_of-value.result
  written = by_form unstyled c.args.c c.args.moment e c.value_of-value.ensures

  room
      : c.args.at + length (formed c.args.moment unstyled f c.args.c.width c.value_of-value.result)
      ≤ length c.args.out.now
  room = rw written at c.requires.moment_in_bounds

  -- a number has room on its own width
  digits : is_number f ≡ true → (1 ≤ c.args.c.width) × (c.value_of-value.result < 10 ^ c.args.c.width)
  digits n = room_of c.args.c c.args.moment c.requires.has_room e n c.value_of-value.ensures

pub put_number-requires : goal.put_number-requires
unfolding formed is_number
put_number-requires c =
    let f = c.in-Zeros.is in
    let d = digits (goal.at.put_number-requires c).After-value_of-value f refl in
    let e = plain_length 48 c.args.c.width c.value_of-value.result d.0 (omega (arith, d.1)) in
    rw (← e) at (room (goal.at.put_number-requires c).After-value_of-value f)

pub put_number-requires-in-Blanks : goal.put_number-requires-in-Blanks
unfolding formed is_number
put_number-requires-in-Blanks c =
    let f = c.in-Blanks.is in
    let d = digits (goal.at.put_number-requires-in-Blanks c).After-value_of-value f refl in
    let e = plain_length 32 c.args.c.width c.value_of-value.result d.0 (omega (arith, d.1)) in
    rw (← e) at (room (goal.at.put_number-requires-in-Blanks c).After-value_of-value f)

pub put_number-requires-in-FromSunday : goal.put_number-requires-in-FromSunday
unfolding formed is_number
put_number-requires-in-FromSunday c =
    let f = c.in-FromSunday.is in
    let d = digits (goal.at.put_number-requires-in-FromSunday c).After-value_of-value f refl in
    let e = plain_length 48 c.args.c.width (c.value_of-value.result % 7) d.0 (omega (arith, d.1)) in
    rw (← e) at (room (goal.at.put_number-requires-in-FromSunday c).After-value_of-value f)

pub put_name-requires : goal.put_name-requires
unfolding formed
put_name-requires c =
    record {
      n_bound = omega (arith, c.short_length.ensures, length-take 3 (name_for c.in-Short.t c.value_of-value.result));
      n_in_bounds = rw (← plain_name_length AsIs _, ← c.short_length.ensures) at
          (room (goal.at.put_name-requires c).After-value_of-value c.in-Short.is);
    }

pub put_name-requires-in-Full : goal.put_name-requires-in-Full
unfolding formed
put_name-requires-in-Full c =
    record {
      n_bound = omega (arith, c.full_length.ensures);
      n_in_bounds = rw (← plain_name_length AsIs _, ← c.full_length.ensures) at
          (room (goal.at.put_name-requires-in-Full c).After-value_of-value c.in-Full.is);
    }

pub put_name-requires-in-Lower : goal.put_name-requires-in-Lower
unfolding formed
put_name-requires-in-Lower c =
    record {
      n_bound = omega (arith, c.full_length-in-Lower.ensures);
      n_in_bounds = rw (← plain_name_length Small _, ← c.full_length-in-Lower.ensures) at
          (room (goal.at.put_name-requires-in-Lower c).After-value_of-value c.in-Lower.is);
    }

pub put_zone-requires : goal.put_zone-requires
unfolding formed
put_zone-requires c = room (goal.at.put_zone-requires c).After-value_of-value c.in-Zone.is

pub put_seconds-requires : goal.put_seconds-requires
unfolding formed
put_seconds-requires c = room (goal.at.put_seconds-requires c).After-value_of-value c.in-Seconds.is

pub returns-in-Zeros : goal.returns-in-Zeros
unfolding formed is_number
returns-in-Zeros c =
    let f = c.in-Zeros.is in
    let d = digits (goal.at.returns-in-Zeros c).After-value_of-value f refl in
    let e = number_plain 48 c.args.c.width c.value_of-value.result d.0 (omega (arith, d.1)) in
    rw (written (goal.at.returns-in-Zeros c).After-value_of-value f, e) c.put_number.ensures

pub returns-in-Blanks : goal.returns-in-Blanks
unfolding formed is_number
returns-in-Blanks c =
    let f = c.in-Blanks.is in
    let d = digits (goal.at.returns-in-Blanks c).After-value_of-value f refl in
    let e = number_plain 32 c.args.c.width c.value_of-value.result d.0 (omega (arith, d.1)) in
    rw (written (goal.at.returns-in-Blanks c).After-value_of-value f, e) c.put_number-in-Blanks.ensures

pub returns-in-FromSunday : goal.returns-in-FromSunday
unfolding formed is_number
returns-in-FromSunday c =
    let f = c.in-FromSunday.is in
    let d = digits (goal.at.returns-in-FromSunday c).After-value_of-value f refl in
    let e = number_plain 48 c.args.c.width (c.value_of-value.result % 7) d.0 (omega (arith, d.1)) in
    rw (written (goal.at.returns-in-FromSunday c).After-value_of-value f, e) c.put_number-in-FromSunday.ensures

pub returns-in-Short : goal.returns-in-Short
unfolding formed
returns-in-Short c =
    rw (written (goal.at.returns-in-Short c).After-value_of-value c.in-Short.is, name_plain)
    (rw (letters_taken 3 _ c.short_length.ensures) at c.put_name.ensures)

pub returns-in-Full : goal.returns-in-Full
unfolding formed
returns-in-Full c =
    rw (written (goal.at.returns-in-Full c).After-value_of-value c.in-Full.is, name_plain)
    (rw (name_taken _ c.full_length.ensures) at c.put_name-in-Full.ensures)

pub returns-in-Lower : goal.returns-in-Lower
unfolding formed
returns-in-Lower c =
    rw (written (goal.at.returns-in-Lower c).After-value_of-value c.in-Lower.is, name_plain)
    (rw (name_taken _ c.full_length-in-Lower.ensures) at c.put_name-in-Lower.ensures)

pub returns-in-Zone : goal.returns-in-Zone
unfolding formed
returns-in-Zone c =
    rw (written (goal.at.returns-in-Zone c).After-value_of-value c.in-Zone.is) c.put_zone.ensures

pub returns-in-Seconds : goal.returns-in-Seconds
unfolding formed
returns-in-Seconds c =
    rw (written (goal.at.returns-in-Seconds c).After-value_of-value c.in-Seconds.is) c.put_seconds.ensures

pub returns-in-Unknown : goal.returns-in-Unknown
unfolding formed
returns-in-Unknown c =
    rw (written (goal.at.returns-in-Unknown c).After-value_of-value c.in-Unknown.is)
    record { ends = sym (add-zero _); stores = refl }
