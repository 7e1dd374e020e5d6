-- Letter case in the POSIX locale: the capitals A to Z and their small letters.
use Rattle.std.specs.Prelude.{ℕ, ◌+◌, ◌-◌, cond, ◌&&◌, List, map, leb}
use Rattle.names.specs.declared.names.Case.{Case}
use Rattle.names.specs.declared.names.Case.TheVariants.{AsIs, Small, Capital}

-- a capital as its small letter, any other byte as it is
unfoldable pub fold : ℕ → ℕ
fold b = cond (leb 65 b && leb b 90) (b + 32) b

-- a small letter as its capital, any other byte as it is
unfoldable pub capital : ℕ → ℕ
capital b = cond (leb 97 b && leb b 122) (b - 32) b

-- a text as it stands, in small letters or in capitals
unfoldable pub cased : Case → List ℕ → List ℕ
cased AsIs s = s
cased Small s = map fold s
cased Capital s = map capital s
