-- The search for a middle form, one after the other.
use Prim.Native.Nat.{ℕ, ◌+◌, ◌≤◌, ◌<◌}
use mathlib.Core.Path.{◌≡◌, refl}
use mathlib.Core.Bool.{true, false}
use mathlib.Core.List.{List, map}
use native.Mathlib.Numerals.{add-one}
use lib.ListN.{length, get_or, drop, drop_of_length-le}
use lib.Seq.{drop-cons}
use Rattle.names.specs.Names.{goes_on, first_form}
use Rattle.names.specs.Rows.{form_of}
use Rattle.names.specs.declared.names.Middle.{Middle}
use Rattle.names.specs.declared.names.NameForm.TheVariants.{Middle as MiddleForm}
use Rattle.std.specs.Prelude.{None, Some}
use Rattle.names.specs.Names.{found}

module _ (ms : List Middle) (s : List ℕ) (j : ℕ) where
  pub ended : length ms ≤ j → first_form (map form_of (drop j ms)) s ≡ None
  unfolding first_form
  ended h = rw (drop_of_length-le ms h) refl

  module _ (d : Middle) (h : j < length ms) where
    pub this_form : goes_on (get_or ms j d).letters.now s ≡ true
        → first_form (map form_of (drop j ms)) s ≡ Some (found (get_or ms j d).index (length (get_or ms j d).letters.now) MiddleForm)
    unfolding form_of first_form
    this_form e = rw (drop-cons ms j d h, e) refl

    pub a_later_form : goes_on (get_or ms j d).letters.now s ≡ false
        → first_form (map form_of (drop j ms)) s ≡ first_form (map form_of (drop (j + 1) ms)) s
    unfolding form_of first_form
    a_later_form e = rw (drop-cons ms j d h, e, add-one j) refl
