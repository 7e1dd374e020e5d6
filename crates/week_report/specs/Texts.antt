-- What the texts of a list give (RULES 9.3): each a sheet, or the number by which it is left out.
use Rattle.std.specs.Prelude.{ℕ, cond, List, [], ◌∷◌, ◌++◌, Result, Ok, Err, eqb}
use Rattle.sheets.specs.Sheets.{packing, reading_fields}
use Rattle.strptime.specs.declared.Reading.{Reading}
use Rattle.sheets.specs.declared.Unpackable.TheVariants.{Bad, NoDay}
use Rattle.sheets.specs.declared.Unpackable.{Unpackable}

-- the word of a sheet, or the number by which a text is left out
abbrev pub Gives : Type 0
Gives = Result ℕ ℕ

-- the word of a sheet; or 13 where no day is said, and 2 where a field is not valid, as adding it to a list would refuse it (RULES 11.3)
unfoldable pub sheet_or_out : Result ℕ Unpackable → Gives
sheet_or_out (Ok x) = Ok x
sheet_or_out (Err NoDay) = Err 13
sheet_or_out (Err (Bad p)) = Err 2

-- a text that is refused is left out by its number; one that is read gives a sheet with all that it says
unfoldable pub given_by : Reading → Gives
given_by r = cond (eqb r.number 0) (sheet_or_out (packing (reading_fields r))) (Err r.number)

-- the words of sheets, and the numbers of those left out
unfoldable pub sheet_in : Gives → List ℕ
sheet_in (Ok x) = x ∷ []
sheet_in (Err n) = []

unfoldable pub out_in : Gives → List ℕ
out_in (Ok x) = []
out_in (Err n) = n ∷ []

-- of all texts, as they are read
unfoldable pub sheets_of : (List ℕ → Reading) → List (List ℕ) → List ℕ
sheets_of read [] = []
sheets_of read (t ∷ ts) = sheet_in (given_by (read t)) ++ sheets_of read ts

unfoldable pub outs_of : (List ℕ → Reading) → List (List ℕ) → List ℕ
outs_of read [] = []
outs_of read (t ∷ ts) = out_in (given_by (read t)) ++ outs_of read ts

-- everything here, for proofs that compute
unfoldable pub computes : Unit {0}
unfolding sheet_or_out given_by sheet_in out_in sheets_of outs_of
computes = tt
