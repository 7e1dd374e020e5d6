-- `text::digits::is_digit` meets its contract: std's test is the definition's.
use Rattle.text.specs.Digits.{is_digit}
use Rattle.text.proofs.digits.is_digit.Goals as goal

pub returns : goal.returns
unfolding is_digit
returns c = c.is_ascii_digit.ensures.value
