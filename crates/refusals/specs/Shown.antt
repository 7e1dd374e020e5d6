-- A text as it is shown: a byte for each of its bytes.
use Prim.Native.Char.{code}
use Rattle.std.specs.Prelude.{ℕ, cond, ◌&&◌, List, map, leb}
use Rattle.text.specs.Space.{is_space}

-- white space as a blank, and what cannot be shown as ?
unfoldable pub shown_byte : ℕ → ℕ
shown_byte b = cond (is_space b) (code " ") (cond (leb 33 b && leb b 126) b (code "?"))

unfoldable pub shown : List ℕ → List ℕ
shown s = map shown_byte s
