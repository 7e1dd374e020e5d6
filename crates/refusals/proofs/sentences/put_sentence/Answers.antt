-- `refusals::sentences::put_sentence` meets its contract. Assumes nothing.
use Rattle.laws.specs.Bytes.{bytes}
use Rattle.lists.proofs.Writing.{nothing}
use Rattle.reasons.specs.Reasons.{about}
use Rattle.strptime.specs.Answers as reader
use Rattle.refusals.specs.Sentences.{open_sentence, sentence}
use Rattle.refusals.proofs.sentences.put_sentence.Goals as goal

pub overflow_cast-at : goal.overflow_cast-at
unfolding reader.computes
overflow_cast-at c = record { fits = rw c.in-BadConversion.is at c.args.refused.now.place_fits }

pub returns-in-FormatTooLong : goal.returns-in-FormatTooLong
unfolding sentence bytes reader.computes
returns-in-FormatTooLong c = rw c.in-FormatTooLong.is c.bytes.ensures

pub returns-in-BadConversion : goal.returns-in-BadConversion
unfolding sentence reader.computes
returns-in-BadConversion c = rw c.in-BadConversion.is c.put_bad_conversion.ensures

pub returns-in-TextTooLong : goal.returns-in-TextTooLong
unfolding sentence bytes reader.computes
returns-in-TextTooLong c = rw c.in-TextTooLong.is c.bytes-in-TextTooLong.ensures

pub returns-in-NoMatch : goal.returns-in-NoMatch
unfolding sentence reader.computes
returns-in-NoMatch c = rw c.in-NoMatch.is c.put_mismatch.ensures

pub returns-in-OutOfRange : goal.returns-in-OutOfRange
unfolding sentence bytes reader.computes
returns-in-OutOfRange c = rw c.in-OutOfRange.is c.bytes-in-OutOfRange.ensures

pub returns-in-Contradiction : goal.returns-in-Contradiction
unfolding sentence bytes reader.computes
returns-in-Contradiction c = rw c.in-Contradiction.is c.bytes-in-Contradiction.ensures

pub returns-in-NoDay : goal.returns-in-NoDay
unfolding sentence reader.computes about
returns-in-NoDay c = rw c.in-NoDay.is c.put_quarrel.ensures

pub returns-in-NoHour : goal.returns-in-NoHour
unfolding sentence reader.computes about
returns-in-NoHour c = rw c.in-NoHour.is c.put_quarrel-in-NoHour.ensures

pub returns-in-OpenDay : goal.returns-in-OpenDay
unfolding sentence reader.computes open_sentence
returns-in-OpenDay c = rw c.in-OpenDay.is c.put_open_day.ensures

pub returns-in-OpenHour : goal.returns-in-OpenHour
unfolding sentence reader.computes open_sentence
returns-in-OpenHour c = rw c.in-OpenHour.is c.put_open_hour.ensures

pub returns-in-OverBudget : goal.returns-in-OverBudget
unfolding sentence reader.computes
returns-in-OverBudget c = rw c.in-OverBudget.is (nothing c.args.w.now)
