-- `converted::measuring::styled_length` meets its contract: one return for each arm.
use mathlib.Core.Logic.{inl, inr}
use mathlib.Core.Path.{◌≡◌}
use Rattle.conversions.specs.declared.conversions.Form.{Form}
use Rattle.converted.specs.Converted.{formed, converted}
use Rattle.converted.proofs.Lengths.{by_form, number_length, name_length}
use Rattle.converted.proofs.measuring.styled_length.Goals as goal
use Rattle.converted.proofs.measuring.styled_length.Goals.{After-value-value}

-- what the conversion writes, by its form
written : (c : After-value-value) {f : Form} → c.args.c.form ≡ f
    → converted c.args.style c.args.c c.args.moment ≡ formed c.args.moment c.args.style f c.args.c.width c.value-value.result
written c e = by_form c.args.style c.args.c c.args.moment e c.value-value.ensures

pub returns-in-Zeros : goal.returns-in-Zeros
unfolding formed
returns-in-Zeros c =
    let w = (goal.at.returns-in-Zeros c).After-value-value in
    let m = rw (c.places_by-places.ensures, c.digit_count.ensures) at c.max.ensures in
    elim c.in-Zeros.is [ inl e ↦ rw (written w e, number_length) m | inr e ↦ rw (written w e, number_length) m ]

pub returns-in-FromSunday : goal.returns-in-FromSunday
unfolding formed
returns-in-FromSunday c =
    let w = (goal.at.returns-in-FromSunday c).After-value-value in
    rw (written w c.in-FromSunday.is, number_length)
    (rw (c.places_by-places.ensures, c.digit_count-in-FromSunday.ensures) at c.max-in-FromSunday.ensures)

pub returns-in-Short : goal.returns-in-Short
unfolding formed
returns-in-Short c =
    let w = (goal.at.returns-in-Short c).After-value-value in
    rw (written w c.in-Short.is, name_length) (rw c.short_length.ensures at c.max-in-Short.ensures)

pub returns-in-Full : goal.returns-in-Full
unfolding formed
returns-in-Full c =
    let w = (goal.at.returns-in-Full c).After-value-value in
    let m = rw c.full_length.ensures at c.max-in-Full.ensures in
    elim c.in-Full.is [ inl e ↦ rw (written w e, name_length) m | inr e ↦ rw (written w e, name_length) m ]

pub returns-in-Zone : goal.returns-in-Zone
unfolding converted formed
returns-in-Zone c = rw c.in-Zone.is c.zone_length.ensures

pub returns-in-Seconds : goal.returns-in-Seconds
unfolding converted formed
returns-in-Seconds c = rw c.in-Seconds.is c.seconds_length.ensures

pub returns-in-Unknown : goal.returns-in-Unknown
unfolding converted formed
returns-in-Unknown c = rw c.in-Unknown.is
