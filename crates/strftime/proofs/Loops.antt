-- The loops over the elements: what has been measured, and what has been put.
-- Assumes nothing.
use Prim.Native.Nat.{ℕ, ◌+◌, ◌≤◌, ◌<◌}
use mathlib.Core.List.{List}
use mathlib.Core.Path.{◌≡◌, refl, sym, ap, ◌∙◌}
use native.Mathlib.Nat.{zero-add}
use native.Mathlib.Omega.{arith}
use lib.ListN.{length, drop, get_or, length-append}
use lib.Seq.{sets, length-sets}
use Rattle.laws.specs.Stores.{Puts}
use Rattle.laws.proofs.Stores.{sets_append}
use Rattle.values.specs.declared.Moment.{Moment}
use Rattle.strftime.specs.Writing.{element, text}
use Rattle.strftime.proofs.Lengths.{text_next, text_end}

-- the first i elements write n bytes
pub record Measured (m : Moment) (es : List ℕ) (n i : ℕ) : Type 0 where
  pub within : i ≤ length es
  pub count : n + length (text m (drop i es)) ≡ length (text m es)

module _ (m : Moment) (es : List ℕ) where
  pub nothing_measured : Measured m es 0 0
  nothing_measured = record { within = omega arith; count = zero-add (length (text m es)) }

module _ {m : Moment} {es : List ℕ} {n i : ℕ} (s : Measured m es n i) where
  next-length : i < length es → length (text m (drop i es)) ≡ length (element m (get_or es i 0)) + length (text m (drop (i + 1) es))
  next-length h = ap length (text_next m es i h) ∙ length-append (element m (get_or es i 0)) (text m (drop (i + 1) es))

  -- one element more
  pub measured_next : {k : ℕ} → i < length es → k ≡ length (element m (get_or es i 0)) → Measured m es (n + k) (i + 1)
  measured_next h e = record { within = omega arith; count = omega (arith, s.count, next-length h) }

  pub all_measured : length es ≤ i → n ≡ length (text m es)
  all_measured h = omega (arith, s.count, ap length (text_end m es i h))

-- The invariant of putting: the rest of the text, stored at the place reached, gives what the whole gives over the buffer as it came.
pub record Putting (m : Moment) (es buf₀ buf : List ℕ) (at i : ℕ) : Type 0 where
  pub measured : Measured m es at i
  pub kept : length buf ≡ length buf₀
  pub fits : length (text m es) ≤ length buf
  pub rest : sets buf at (text m (drop i es)) ≡ sets buf₀ 0 (text m es)

pub nothing_put : (m : Moment) (es buf : List ℕ) → length (text m es) ≤ length buf → Putting m es buf buf 0 0
nothing_put m es buf h = record { measured = nothing_measured m es; kept = refl; fits = h; rest = refl }

module _ {m : Moment} {es buf₀ buf : List ℕ} {at i : ℕ} (p : Putting m es buf₀ buf at i) where
  -- there is room for the next element
  pub room : i < length es → at + length (element m (get_or es i 0)) ≤ length buf
  room h = omega (arith, p.measured.count, p.fits, next-length p.measured h)

  -- one element more
  pub put_next : {b : List ℕ} {end : ℕ} → i < length es → Puts (element m (get_or es i 0)) buf at b end
      → Putting m es buf₀ b end (i + 1)
  put_next {b} {end} h q =
      let x = element m (get_or es i 0) in
      let l : length b ≡ length buf = ap length q.stores ∙ length-sets buf at x in
      record {
        measured = rw q.ends (measured_next p.measured h refl);
        kept = l ∙ p.kept;
        fits = rw l p.fits;
        rest = rw (q.stores, q.ends, ← sets_append buf at x (text m (drop (i + 1) es)), ← text_next m es i h) p.rest;
      }

  pub all_put : length es ≤ i → Puts (text m es) buf₀ 0 buf at
  all_put h =
      record {
        ends = rw zero-add (all_measured p.measured h);
        stores = ap (sets buf at) (sym (text_end m es i h)) ∙ p.rest;
      }
