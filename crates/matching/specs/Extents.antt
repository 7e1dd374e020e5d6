-- Where a kind of fact was first said in a text (RULES 8.5): from its first digit or letter up to the byte after its last.
use Rattle.std.specs.Prelude.{ℕ, ◌-◌, cond, List, [], ◌∷◌, eqb, take, drop}
use Rattle.matching.specs.Elements.{read_element}
use Rattle.matching.specs.declared.extents.Extent.{Extent}
use Rattle.std.specs.Prelude.{Err, Ok, Result}
use Rattle.matching.specs.declared.Refused.{Refused}
use Rattle.matching.specs.declared.elements.Item.TheVariants.{Fact, Skip}
use Rattle.matching.specs.declared.elements.Item.{Item}

abbrev pub extent : ℕ → ℕ → Extent
extent from next = record { from = from; next = next }

-- the bytes of a text from an offset up to another
abbrev pub between : List ℕ → ℕ → ℕ → List ℕ
between s from next = take (next - from) (drop from s)

-- where nothing stands
unfoldable pub nowhere : Extent
nowhere = extent 0 0

-- where an item says kind k, or else what `on` finds from the offset after it on; after a refusal nothing is read
unfoldable pub said_at : ℕ → (ℕ → Extent) → Result Item Refused → Extent
said_at k on (Ok (Skip next)) = on next
said_at k on (Ok (Fact j n f from next)) = cond (eqb j k) (extent from next) (on next)
said_at k on (Err why) = nowhere

-- where kind k is first said by elements, one after the other, from an offset of the text on
unfoldable pub first_said : ℕ → List ℕ → List ℕ → ℕ → Extent
first_said k [] s at = nowhere
first_said k (e ∷ es) s at = said_at k (λ next. first_said k es s next) (read_element e s at)

-- everything here, for proofs that compute
unfoldable pub computes : Unit {0}
unfolding nowhere said_at first_said
computes = tt
