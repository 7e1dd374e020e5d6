-- `strftime::putting::put_styled` meets its contract: each form puts what it writes.
use Prim.Native.Nat.{◌+◌, ◌≤◌}
use mathlib.Core.Path.{◌≡◌, refl, sym}
use native.Mathlib.Nat.{add-zero}
use native.Mathlib.Omega.{arith}
use lib.ListN.{length, length-take}
use Rattle.names.specs.Naming.{name_for}
use Rattle.conversions.specs.declared.conversions.Form.{Form}
use Rattle.converted.specs.Converted.{formed, converted}
use Rattle.converted.proofs.Lengths.{by_form, letters_taken, name_taken}
use Rattle.strftime.proofs.putting.put_styled.Goals as goal
use Rattle.strftime.proofs.putting.put_styled.Goals.{After-value_of-value}

module _ (c : After-value_of-value) {f : Form} (e : c.args.c.form ≡ f) where
  written : converted c.args.style c.args.c c.args.moment
      ≡ formed c.args.moment c.args.style f c.args.c.width c.value_of-value.result
  written = by_form c.args.style c.args.c c.args.moment e c.value_of-value.ensures

  room : c.args.at + length (formed c.args.moment c.args.style f c.args.c.width c.value_of-value.result)
      ≤ length c.args.out.now
  room = rw written at c.requires

pub put_styled_number-requires : goal.put_styled_number-requires
unfolding formed
put_styled_number-requires c = room (goal.at.put_styled_number-requires c).After-value_of-value c.in-Zeros.is

pub put_styled_number-requires-in-Blanks : goal.put_styled_number-requires-in-Blanks
unfolding formed
put_styled_number-requires-in-Blanks c = room (goal.at.put_styled_number-requires-in-Blanks c).After-value_of-value c.in-Blanks.is

pub put_styled_number-requires-in-FromSunday : goal.put_styled_number-requires-in-FromSunday
unfolding formed
put_styled_number-requires-in-FromSunday c =
    room (goal.at.put_styled_number-requires-in-FromSunday c).After-value_of-value c.in-FromSunday.is

pub put_styled_name-requires : goal.put_styled_name-requires
unfolding formed
put_styled_name-requires c =
    record {
      n_bound = omega (arith, c.short_length.ensures, length-take 3 (name_for c.in-Short.t c.value_of-value.result));
      n_in_bounds = rw (letters_taken 3 _ c.short_length.ensures)
          (room (goal.at.put_styled_name-requires c).After-value_of-value c.in-Short.is);
    }

pub put_styled_name-requires-in-Full : goal.put_styled_name-requires-in-Full
unfolding formed
put_styled_name-requires-in-Full c =
    record {
      n_bound = omega (arith, c.full_length.ensures);
      n_in_bounds = rw (name_taken _ c.full_length.ensures)
          (room (goal.at.put_styled_name-requires-in-Full c).After-value_of-value c.in-Full.is);
    }

pub put_styled_name-requires-in-Lower : goal.put_styled_name-requires-in-Lower
unfolding formed
put_styled_name-requires-in-Lower c =
    record {
      n_bound = omega (arith, c.full_length-in-Lower.ensures);
      n_in_bounds = rw (name_taken _ c.full_length-in-Lower.ensures)
          (room (goal.at.put_styled_name-requires-in-Lower c).After-value_of-value c.in-Lower.is);
    }

pub put_zone-requires : goal.put_zone-requires
unfolding formed
put_zone-requires c = room (goal.at.put_zone-requires c).After-value_of-value c.in-Zone.is

pub put_seconds-requires : goal.put_seconds-requires
unfolding formed
put_seconds-requires c = room (goal.at.put_seconds-requires c).After-value_of-value c.in-Seconds.is

pub returns-in-Zeros : goal.returns-in-Zeros
unfolding formed
returns-in-Zeros c =
    rw (written (goal.at.returns-in-Zeros c).After-value_of-value c.in-Zeros.is) c.put_styled_number.ensures

pub returns-in-Blanks : goal.returns-in-Blanks
unfolding formed
returns-in-Blanks c =
    rw (written (goal.at.returns-in-Blanks c).After-value_of-value c.in-Blanks.is) c.put_styled_number-in-Blanks.ensures

pub returns-in-FromSunday : goal.returns-in-FromSunday
unfolding formed
returns-in-FromSunday c =
    rw (written (goal.at.returns-in-FromSunday c).After-value_of-value c.in-FromSunday.is) c.put_styled_number-in-FromSunday.ensures

pub returns-in-Short : goal.returns-in-Short
unfolding formed
returns-in-Short c =
    rw (written (goal.at.returns-in-Short c).After-value_of-value c.in-Short.is)
    (rw (letters_taken 3 _ c.short_length.ensures) at c.put_styled_name.ensures)

pub returns-in-Full : goal.returns-in-Full
unfolding formed
returns-in-Full c =
    rw (written (goal.at.returns-in-Full c).After-value_of-value c.in-Full.is)
    (rw (name_taken _ c.full_length.ensures) at c.put_styled_name-in-Full.ensures)

pub returns-in-Lower : goal.returns-in-Lower
unfolding formed
returns-in-Lower c =
    rw (written (goal.at.returns-in-Lower c).After-value_of-value c.in-Lower.is)
    (rw (name_taken _ c.full_length-in-Lower.ensures) at c.put_styled_name-in-Lower.ensures)

pub returns-in-Zone : goal.returns-in-Zone
unfolding formed
returns-in-Zone c =
    rw (written (goal.at.returns-in-Zone c).After-value_of-value c.in-Zone.is) c.put_zone.ensures

pub returns-in-Seconds : goal.returns-in-Seconds
unfolding formed
returns-in-Seconds c =
    rw (written (goal.at.returns-in-Seconds c).After-value_of-value c.in-Seconds.is) c.put_seconds.ensures

pub returns-in-Unknown : goal.returns-in-Unknown
unfolding formed
returns-in-Unknown c =
    rw (written (goal.at.returns-in-Unknown c).After-value_of-value c.in-Unknown.is)
    record { ends = sym (add-zero _); stores = refl }
