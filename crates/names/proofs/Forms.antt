-- The order of the forms, once over each table: a later form is the beginning of an earlier one of the same name, and forms of two names
-- are apart. So no form is taken where a longer one fits, and no text goes on with forms of two names. By that the reader may look for a
-- name by its short form first.
use Prim.Native.Nat.{ℕ, zero, suc, ◌+◌, ◌≤◌, ◌<◌}
use mathlib.Core.Path.{◌≡◌, refl, sym, ap, ◌∙◌}
use mathlib.Core.Bool.{Bool, true, false, cond, ◌&&◌, and-eq-true_iff, false≢true}
use mathlib.Core.List.Memᴰ.{head as here}
use mathlib.Core.List.Memᴰ.{tail as there}
use mathlib.Core.List.{List, [], ◌∷◌, ◌++◌, map, Memᴰ as Member}
use native.Mathlib.Nat.{add-zero, zero-add, add-suc, suc-add, le_of_suc-le-suc, not-suc-le-zero}
use native.Mathlib.Omega.{arith}
use borrow.Author.Tests.{eqb-true, leb-true, ltb-true}
use lib.Dec.{eqb, leb, ltb}
use lib.ListN.{length, get_or, length-map}
use Rattle.laws.specs.Lists.{every}
use Rattle.laws.proofs.Cases.{clash}
use Rattle.laws.proofs.Lists.{every_member}
use Rattle.std.specs.Option.{option_or}
use Rattle.names.specs.Case.{fold}
use Rattle.names.specs.Names.{Form, names_of, name_at, short, middles_of, each_as, others_of, forms_of, goes_on, first_form, read_name}
use Rattle.names.specs.Names.{computes}
use Rattle.names.specs.Distinct.{apart, after, ranked}
use Rattle.names.specs.Rows.{place_in, short_place}
use Rattle.names.specs.declared.names.NameForm.{NameForm}
use Rattle.names.specs.declared.names.NameForm.TheVariants.{Full, Short}
use Rattle.names.specs.declared.names.Names.{Names}
use Rattle.names.specs.declared.names.Names.TheVariants.{Weekdays, Months, Halves}
use Rattle.names.proofs.Goes.{fails, goes_length, goes_trans, shorter, never_both}
use Rattle.names.proofs.Table.{entry}
use Rattle.std.specs.Prelude.{None, Option, Some}
use Rattle.names.specs.Names.{found}
use Rattle.names.specs.declared.names.NameRead.{NameRead}

-- ---- any table

-- two forms, of which one may stand after the other, in one text
module _ (x y : Form) (s : List ℕ) (a : after x y ≡ true) (p : goes_on x.letters s ≡ true) (q : goes_on y.letters s ≡ true) where
  by_name : (t : Bool) → eqb x.index y.index ≡ t → (x.index ≡ y.index) × (length y.letters ≤ length x.letters)
  unfolding after
  by_name true e = (eqb-true x.index y.index e, goes_length y.letters x.letters (rw e at a))
  by_name false e = absurd (false≢true (sym (never_both x.letters y.letters s (rw e at a) p) ∙ q))

  one_name : (x.index ≡ y.index) × (length y.letters ≤ length x.letters)
  one_name = by_name _ refl

module _ (x : Form) (xs : List Form) (r : ranked (x ∷ xs) ≡ true) where
  tail-ranked : ranked xs ≡ true
  unfolding ranked
  tail-ranked = ((and-eq-true_iff (every (after x) xs) (ranked xs)).0 r).1

  each_after : {y : Form} → Member y xs → after x y ≡ true
  unfolding ranked
  each_after {y} m = every_member (after x) xs ((and-eq-true_iff (every (after x) xs) (ranked xs)).0 r).0 y m

-- forms of a ranked table that one text goes on with are of one name
one_value_in : (xs : List Form) (s : List ℕ) → ranked xs ≡ true → {x y : Form} → Member x xs → Member y xs
    → goes_on x.letters s ≡ true → goes_on y.letters s ≡ true → x.index ≡ y.index
one_value_in (z ∷ zs) s r (here e) (here f) p q = rw (e, f) refl
one_value_in [] s r {x = x} {y = y} x7 _ p q = elim x7 [ ]
one_value_in (z ∷ zs) s r {x} {y} (here e) (there m) p q =
    rw e (one_name z y s (each_after z zs r m) (rw e at p) q).0
one_value_in (z ∷ zs) s r {x} {y} (there m) (here f) p q =
    rw f (sym (one_name z x s (each_after z zs r m) (rw f at q) p).0)
one_value_in (z ∷ zs) s r (there m) (there n) p q = one_value_in zs s (tail-ranked z zs r) m n p q

-- what is read of forms xs, where a text goes on with y: a form x of the same name, and not a shorter one
pub record Longest (xs : List Form) (s : List ℕ) (y : Form) : Type 0 where
  pub read : Form
  pub listed : Member read xs
  pub fits : goes_on read.letters s ≡ true
  pub found : first_form xs s ≡ Some (found read.index (length read.letters) read.form)
  pub same_name : read.index ≡ y.index
  pub longer : length y.letters ≤ length read.letters

pub longest_in : (xs : List Form) (s : List ℕ) (y : Form) → ranked xs ≡ true → Member y xs → goes_on y.letters s ≡ true
    → Longest xs s y
unfolding first_form
longest_in [] s y r m q = elim m [ ]
longest_in (z ∷ zs) s y r m q = go (λ n. longest_in zs s y (tail-ranked z zs r) n q) (goes_on z.letters s) refl m
  where
    go : (Member y zs → Longest zs s y) → (b : Bool) → goes_on z.letters s ≡ b → Member y (z ∷ zs) → Longest (z ∷ zs) s y
    go more true e (here f) =
        record { read = z; listed = here refl; fits = e; found = rw e refl; same_name = rw f refl; longer = rw f (omega arith) }
    go more true e (there n) =
        let o = one_name z y s (each_after z zs r n) e q in
        record { read = z; listed = here refl; fits = e; found = rw e refl; same_name = o.0; longer = o.1 }
    go more false e (here f) = absurd (false≢true (sym e ∙ (rw f at q)))
    go more false e (there n) =
        let o = more n in
        record {
          read = o.read;
          listed = there o.listed;
          fits = o.fits;
          found = rw e o.found;
          same_name = o.same_name;
          longer = o.longer;
        }

-- ---- the tables

-- the order holds of all three: the one test of each
ranked_forms : (t : Names) → ranked (forms_of t) ≡ true
unfolding ranked every after apart goes_on fold computes
ranked_forms Weekdays = refl
ranked_forms Months = refl
ranked_forms Halves = refl

-- each form is of a name of its table: it begins with the name's short form, and begins the name
of_name : Names → Form → Bool
of_name t x =
    let n = name_at t x.index in
    ltb x.index (length (names_of t)) && (goes_on (short n) x.letters && (goes_on x.letters n && leb 1 (length x.letters)))

all_of_names : (t : Names) → every (of_name t) (forms_of t) ≡ true
unfolding of_name every goes_on fold computes
all_of_names Weekdays = refl
all_of_names Months = refl
all_of_names Halves = refl

pub record OfName (t : Names) (x : Form) : Type 0 where
  pub place : x.index < length (names_of t)
  pub from_short : goes_on (short (name_at t x.index)) x.letters ≡ true
  pub begins : goes_on x.letters (name_at t x.index) ≡ true
  pub some : 1 ≤ length x.letters

pub of_name_lem : (t : Names) (x : Form) → Member x (forms_of t) → OfName t x
unfolding of_name
of_name_lem t x m =
    let n = name_at t x.index in
    let a = (and-eq-true_iff (ltb x.index (length (names_of t))) _).0 (every_member (of_name t) (forms_of t) (all_of_names t) x m) in
    let b = (and-eq-true_iff (goes_on (short n) x.letters) _).0 a.1 in
    let c = (and-eq-true_iff (goes_on x.letters n) (leb 1 (length x.letters))).0 b.1 in
    record {
      place = ltb-true x.index (length (names_of t)) a.0;
      from_short = b.0;
      begins = c.0;
      some = leb-true 1 (length x.letters) c.1;
    }

-- ---- a form of each name

abbrev formed : NameForm → ℕ → List ℕ → Form
formed f i n = record { letters = n; index = i; form = f }

module _ (f : NameForm) where
  each_in : (k : ℕ) (ns : List (List ℕ)) (i : ℕ) → i < length ns → Member (formed f (k + i) (get_or ns i [])) (each_as f k ns)
  unfolding each_as
  each_in k [] i h = absurd (not-suc-le-zero h)
  each_in k (n ∷ ns) zero h = here {x = formed f k n} (rw (add-zero k) refl)
  each_in k (n ∷ ns) (suc i) h =
      there {xs = each_as f (suc k) ns} (rw (add-suc k i, ← suc-add k i) (each_in (suc k) ns i (le_of_suc-le-suc h)))

  module _ (s : List ℕ) where
    -- none is read where the text goes on with none
    each_none : (k : ℕ) (ns : List (List ℕ)) → ((j : ℕ) → j < length ns → goes_on (get_or ns j []) s ≡ false)
        → first_form (each_as f k ns) s ≡ None
    unfolding each_as first_form
    each_none k [] h = refl
    each_none k (n ∷ ns) h = rw (h zero (omega arith)) (each_none (suc k) ns (λ j l. h (suc j) (omega arith)))

    -- the first that it goes on with is
    each_first : (k : ℕ) (ns : List (List ℕ)) (i : ℕ) → i < length ns → goes_on (get_or ns i []) s ≡ true
        → ((j : ℕ) → j < i → goes_on (get_or ns j []) s ≡ false)
        → first_form (each_as f k ns) s ≡ Some (found (k + i) (length (get_or ns i [])) f)
    unfolding each_as first_form
    each_first k [] i h g b = absurd (not-suc-le-zero h)
    each_first k (n ∷ ns) zero h g b = rw (g, add-zero k) refl
    each_first k (n ∷ ns) (suc i) h g b =
        rw (b zero (omega arith), add-suc k i, ← suc-add k i)
        (each_first (suc k) ns i (le_of_suc-le-suc h) g (λ j l. b (suc j) (omega arith)))

-- the place of the first name that the text goes on with
module _ (s : List ℕ) where
  placed : (ns : List (List ℕ)) → place_in ns s < length ns → goes_on (get_or ns (place_in ns s) []) s ≡ true
  unfolding place_in
  placed [] h = absurd (not-suc-le-zero h)
  placed (n ∷ ns) h = go (placed ns) (goes_on n s) refl h
    where
      go : (place_in ns s < length ns → goes_on (get_or ns (place_in ns s) []) s ≡ true) → (b : Bool) → goes_on n s ≡ b
          → cond b 0 (suc (place_in ns s)) < suc (length ns) → goes_on (get_or (n ∷ ns) (cond b 0 (suc (place_in ns s))) []) s ≡ true
      go more true e l = e
      go more false e l = more (le_of_suc-le-suc l)

  not_before : (ns : List (List ℕ)) (j : ℕ) → j < place_in ns s → goes_on (get_or ns j []) s ≡ false
  unfolding place_in
  not_before [] j h = absurd (not-suc-le-zero h)
  not_before (n ∷ ns) j h = go (not_before ns) (goes_on n s) refl j h
    where
      go : ((k : ℕ) → k < place_in ns s → goes_on (get_or ns k []) s ≡ false) → (b : Bool) → goes_on n s ≡ b
          → (j : ℕ) → j < cond b 0 (suc (place_in ns s)) → goes_on (get_or (n ∷ ns) j []) s ≡ false
      go more true e j l = absurd (not-suc-le-zero l)
      go more false e zero l = e
      go more false e (suc j) l = more j (le_of_suc-le-suc l)

-- ---- some forms and then others

first_append : (xs ys : List Form) (s : List ℕ) → first_form (xs ++ ys) s ≡ option_or (first_form xs s) (first_form ys s)
unfolding first_form
first_append [] ys s = refl
first_append (x ∷ xs) ys s = go (goes_on x.letters s) (first_form xs s) (first_form ys s) (first_append xs ys s)
  where
    go : (b : Bool) (q r : Option NameRead) {p : Option NameRead} → p ≡ option_or q r
        → cond b (Some (found x.index (length x.letters) x.form)) p
        ≡ option_or (cond b (Some (found x.index (length x.letters) x.form)) q) r
    go true q r e = refl
    go false q r e = e

module _ {x : Form} where
  in_left : (xs ys : List Form) → Member x xs → Member x (xs ++ ys)
  in_left (z ∷ zs) ys (here e) = here e
  in_left [] ys x'' = elim x'' [ ]
  in_left (z ∷ zs) ys (there m) = there (in_left zs ys m)

  in_right : (xs ys : List Form) → Member x ys → Member x (xs ++ ys)
  in_right [] ys m = m
  in_right (z ∷ zs) ys m = there (in_right zs ys m)

none_first : (xs : List Form) (s : List ℕ) → ((x : Form) → Member x xs → goes_on x.letters s ≡ false) → first_form xs s ≡ None
unfolding first_form
none_first [] s h = refl
none_first (x ∷ xs) s h = rw (h x (here refl)) (none_first xs s (λ y m. h y (there m)))

-- a form that was read is one of them, and the text goes on with it
pub record Read (xs : List Form) (s : List ℕ) (j n : ℕ) : Type 0 where
  pub form : Form
  pub listed : Member form xs
  pub fits : goes_on form.letters s ≡ true
  pub place : form.index ≡ j
  pub long : length form.letters ≡ n

pub is_read : (xs : List Form) (s : List ℕ) {j n : ℕ} {f : NameForm} → first_form xs s ≡ Some (found j n f) → Read xs s j n
unfolding first_form
is_read [] s e = clash (cc)
is_read (x ∷ xs) s {j} {n} {f} e = go (goes_on x.letters s) refl e (is_read xs s)
  where
    go : (b : Bool) → goes_on x.letters s ≡ b
        → cond b (Some (found x.index (length x.letters) x.form)) (first_form xs s) ≡ Some (found j n f)
        → (first_form xs s ≡ Some (found j n f) → Read xs s j n) → Read (x ∷ xs) s j n
    go true g e more =
        let p : found x.index (length x.letters) x.form ≡ found j n f = cc in
        record {
          form = x;
          listed = here refl;
          fits = g;
          place = ap (λ (r : NameRead). r.index) p;
          long = ap (λ (r : NameRead). r.length) p;
        }
    go false g e more =
        let r = more e in
        record { form = r.form; listed = there r.listed; fits = r.fits; place = r.place; long = r.long }

ranked_right : (xs ys : List Form) → ranked (xs ++ ys) ≡ true → ranked ys ≡ true
ranked_right [] ys r = r
ranked_right (x ∷ xs) ys r = ranked_right xs ys (tail-ranked x (xs ++ ys) r)

-- ---- reading

module _ (t : Names) (s : List ℕ) where
  -- no text goes on with forms of two names
  pub one_value : (x y : Form) → Member x (forms_of t) → Member y (forms_of t) → goes_on x.letters s ≡ true
      → goes_on y.letters s ≡ true → x.index ≡ y.index
  one_value x y m n p q = one_value_in (forms_of t) s (ranked_forms t) m n p q

  -- no form is read where a longer one fits
  pub longest : (y : Form) → Member y (forms_of t) → goes_on y.letters s ≡ true → Longest (forms_of t) s y
  longest y m q = longest_in (forms_of t) s y (ranked_forms t) m q

  -- nor one of the others
  pub longest_other : (y : Form) → Member y (others_of t) → goes_on y.letters s ≡ true → Longest (others_of t) s y
  unfolding forms_of
  longest_other y m q =
      longest_in (others_of t) s y (ranked_right (each_as Full 0 (names_of t)) (others_of t) (ranked_forms t)) m q

  full-in : (i : ℕ) → i < length (names_of t) → Member (formed Full i (name_at t i)) (forms_of t)
  unfolding forms_of name_at
  full-in i h = in_left (each_as Full 0 (names_of t)) (others_of t) (rw zero-add at (each_in Full 0 (names_of t) i h))

  short-at : (i : ℕ) → i < length (names_of t) → get_or (map short (names_of t)) i [] ≡ short (name_at t i)
  unfolding name_at
  short-at i h = entry short [] (names_of t) i h

  counted : {i : ℕ} → i < length (names_of t) → i < length (map short (names_of t))
  counted h = rw length-map h

  short-in : (i : ℕ) → i < length (names_of t) → Member (formed Short i (short (name_at t i))) (forms_of t)
  unfolding forms_of others_of
  short-in i h =
      in_right (each_as Full 0 (names_of t)) (others_of t)
      (in_right (middles_of t) (each_as Short 0 (map short (names_of t)))
      (rw (zero-add, short-at i h) at (each_in Short 0 (map short (names_of t)) i (counted h))))

  -- full names, middle forms, short forms
  in_order : read_name t s
      ≡ option_or (first_form (each_as Full 0 (names_of t)) s)
      (option_or (first_form (middles_of t) s) (first_form (each_as Short 0 (map short (names_of t))) s))
  unfolding read_name forms_of others_of
  in_order =
      rw (
        first_append (each_as Full 0 (names_of t)) (others_of t) s,
        first_append (middles_of t) (each_as Short 0 (map short (names_of t))) s,
      ) refl

  -- the full name is tried first
  pub reads_full : (i : ℕ) → i < length (names_of t) → goes_on (name_at t i) s ≡ true → read_name t s
      ≡ Some (found i (length (name_at t i)) Full)
  unfolding name_at
  reads_full i h g =
      rw (
        in_order,
        each_first Full s 0 (names_of t) i h g
            (λ j l. fails (goes_on (name_at t j) s) (λ f. absurd (omega (
              arith,
              one_value (formed Full j (name_at t j)) (formed Full i (name_at t i)) (full-in j (omega arith)) (full-in i h) f g,
            )))),
        zero-add i,
      )
      refl

  -- then the others
  pub no_full : ((i : ℕ) → i < length (names_of t) → goes_on (name_at t i) s ≡ false) → read_name t s ≡ first_form (others_of t) s
  unfolding read_name forms_of name_at
  no_full h =
      rw (first_append (each_as Full 0 (names_of t)) (others_of t) s, each_none Full s 0 (names_of t) h) refl

  -- none where no form fits
  pub reads_none : ((x : Form) → Member x (forms_of t) → goes_on x.letters s ≡ false) → read_name t s ≡ None
  unfolding read_name
  reads_none h = none_first (forms_of t) s h

  -- ---- by the place of the short form, i

  module _ (i : ℕ) (e : i ≡ short_place t s) where
    earlier : (j : ℕ) → j < i → j < length (names_of t) → goes_on (short (name_at t j)) s ≡ false
    unfolding short_place
    earlier j l h = rw (short-at j h) at (not_before s (map short (names_of t)) j (omega arith))

    -- the text goes on with no short form, and so with none that begins with one
    pub past : length (names_of t) ≤ i → read_name t s ≡ None
    past h =
        reads_none
        (λ x m. fails (goes_on x.letters s) (λ g.
        let o = of_name_lem t x m in
        false≢true
        (sym (earlier x.index (omega (arith, o.place)) o.place)
        ∙ goes_trans (short (name_at t x.index)) x.letters s o.from_short g)))

    module _ (h : i < length (names_of t)) where
      pub short_on : goes_on (short (name_at t i)) s ≡ true
      unfolding short_place
      short_on = rw (← e, short-at i h) at (placed s (map short (names_of t)) (rw (← e, length-map) h))

      -- a longer name that the text does not go on with: a middle form, or the short one, of three letters
      pub by_others : goes_on (name_at t i) s ≡ false → read_name t s ≡ option_or (first_form (middles_of t) s) (Some (found i 3 Short))
      unfolding name_at
      by_others g =
          rw (
            in_order,
            each_none Full s 0 (names_of t) (λ j l. fails (goes_on (name_at t j) s) (λ f.
                let q = one_value (formed Full j (name_at t j)) (formed Short i (short (name_at t i))) (full-in j l) (short-in i h) f
                short_on in
                false≢true (sym g ∙ (rw q at f)))),
            each_first Short s 0 (map short (names_of t)) i (counted h) (rw (short-at i h) short_on)
                (λ j l. rw (short-at j (omega arith)) (earlier j l (omega arith))),
            short-at i h,
            shorter 3 (name_at t i) s short_on g,
            zero-add i,
          ) refl
