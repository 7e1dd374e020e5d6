-- What the arguments of a program ask for (RULES 9.1).
use Prim.Native.Char.{code}
use Rattle.std.specs.Prelude.{ℕ, Bool, true, false, cond, not, ◌&&◌, List, [], ◌∷◌, Option, None, Some, eqb, ltb}
use Rattle.laws.specs.Bytes.{bytes}
use Rattle.console.specs.declared.Asked.{Asked}
use Rattle.console.specs.declared.Asked.TheVariants.{Standard, File, Help, Version, Unknown}

-- two texts are the same, byte by byte
unfoldable pub same_bytes : List ℕ → List ℕ → Bool
same_bytes [] [] = true
same_bytes [] (b ∷ t) = false
same_bytes (a ∷ s) [] = false
same_bytes (a ∷ s) (b ∷ t) = eqb a b && same_bytes s t

-- a file is named by any other text that is not empty and does not begin with -
unfoldable pub names_file : List ℕ → Bool
names_file [] = false
names_file (b ∷ s) = not (eqb b (code "-"))

-- by an argument
unfoldable pub asked_by : List ℕ → Asked
asked_by s =
    cond (same_bytes s (bytes "--help")) Help
    (cond (same_bytes s (bytes "--version")) Version
    (cond (names_file s) File Unknown))

-- by the first argument after the program's name, if it was fetched whole
unfoldable pub asked_first : Option (List ℕ) → Asked
asked_first None = Unknown
asked_first (Some s) = asked_by s

-- by so many arguments, the program's own name among them, and the first after that
unfoldable pub asked : ℕ → Option (List ℕ) → Asked
asked count first = cond (ltb count 2) Standard (cond (eqb count 2) (asked_first first) Unknown)
