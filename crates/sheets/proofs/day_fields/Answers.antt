-- `sheets::day_fields` meets its contract. Assumes nothing.
use Rattle.std.proofs.Common.{rules, Option, None, Some, ◌≡◌, refl, ◌∙◌}
use Rattle.std.specs.Option.{option_map}
use Rattle.calendar.specs.declared.Date.{Date}
use Rattle.sheets.specs.Sheets.{day_fields, year_month_day}
use Rattle.sheets.proofs.day_fields.Goals as goal

mapped : (o : Option Date) → option_map (λ (t : Date). year_month_day t.year t.month t.day) o ≡ day_fields o
unfolding day_fields
mapped None = refl
mapped (Some t) = refl

pub returns : goal.returns
returns c =
    let e : c.map.result ≡ option_map (λ (t : Date). year_month_day t.year t.month t.day) c.args.day = search rules in
    e ∙ mapped c.args.day
