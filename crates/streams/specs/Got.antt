-- What the answers of reads and writes promise.
use Rattle.std.specs.Prelude.{ℕ, ◌<◌, ◌≤◌, ◌≡◌, List, Option, Ok, Err, length, take}
use Rattle.std.specs.Io.KnownBytes.{Consumes, Appends, Keeps, IsAtEnd}
use Rattle.std.specs.declared.result.Result.{Result}

-- what came has room in a buffer of so many bytes
unfoldable pub Within : {E : Type 0} → Result ℕ E → ℕ → Type 0
Within (Ok n) most = n ≤ most
Within (Err why) most = Unit {0}

-- Of an input whose bytes are known before and after one read: the read took from its front what stands at the front of the buffer now, and
-- nothing only at its end; a read that failed took nothing.
unfoldable pub Gave : {E : Type 0} → Result ℕ E → Option (List ℕ) → Option (List ℕ) → List ℕ → Type 0
Gave (Ok n) old new buf = Consumes old new (take n buf) × (n ≡ 0 → 0 < length buf → IsAtEnd new)
Gave (Err why) old new buf = Keeps old new

-- The same of several reads: fewer bytes than the buffer has room for are all that was left. Reads of which one failed say nothing here.
unfoldable pub Brought : {E : Type 0} → Result ℕ E → Option (List ℕ) → Option (List ℕ) → List ℕ → Type 0
Brought (Ok n) old new buf = Consumes old new (take n buf) × (n < length buf → IsAtEnd new)
Brought (Err why) old new buf = Unit {0}

-- Of an output whose bytes are known: one write added so many of the first bytes of the buffer; a write that failed added nothing.
unfoldable pub Took : {E : Type 0} → Result ℕ E → Option (List ℕ) → Option (List ℕ) → List ℕ → Type 0
Took (Ok n) old new buf = Appends old new (take n buf)
Took (Err why) old new buf = Keeps old new
