-- Text in a specification, as the bytes that the code sees.
use Prim.Native.Char.{code}
use Rattle.std.specs.Prelude.{ℕ, List, [], ◌∷◌}
use Prim.Native.String.{String, [] as ε, ◌∷◌ as ◌◂◌}

-- a text written out as its bytes
unfoldable pub bytes : String → List ℕ
bytes ε = []
bytes (c ◂ s) = code c ∷ bytes s
