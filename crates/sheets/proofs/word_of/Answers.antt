-- `sheets::word_of` meets its contract. Assumes nothing.
use Rattle.sheets.proofs.Sheets.{small, word_is}
use native.Mathlib.Omega.{arith}
use Rattle.sheets.proofs.word_of.Goals as goal

pub overflow_add-to_hour : goal.overflow_add-to_hour
overflow_add-to_hour c =
    let v = small c.args.sheet c.requires in
    record { fits = omega (arith, v.date.year_high, v.date.month_high, c.said_field.ensures) }

pub overflow_mul-to_minute : goal.overflow_mul-to_minute
overflow_mul-to_minute c =
    let v = small c.args.sheet c.requires in
    record { fits = omega (arith, v.date.year_high, v.date.month_high, c.said_field.ensures) }

pub overflow_add-to_minute : goal.overflow_add-to_minute
overflow_add-to_minute c =
    let v = small c.args.sheet c.requires
    in
    record { fits = omega (arith, v.date.year_high, v.date.month_high, c.said_field.ensures, c.said_field-2.ensures) }

pub overflow_mul-to_second : goal.overflow_mul-to_second
overflow_mul-to_second c =
    let v = small c.args.sheet c.requires
    in
    record { fits = omega (arith, v.date.year_high, v.date.month_high, c.said_field.ensures, c.said_field-2.ensures) }

pub overflow_add-to_second : goal.overflow_add-to_second
overflow_add-to_second c =
    let v = small c.args.sheet
    c.requires in
    record {
      fits = omega (
        arith,
        v.date.year_high,
        v.date.month_high,
        c.said_field.ensures,
        c.said_field-2.ensures,
        c.said_field-3.ensures,
      );
    }

pub overflow_mul-to_offset : goal.overflow_mul-to_offset
overflow_mul-to_offset c =
    let v = small c.args.sheet
    c.requires in
    record {
      fits = omega (
        arith,
        v.date.year_high,
        v.date.month_high,
        c.said_field.ensures,
        c.said_field-2.ensures,
        c.said_field-3.ensures,
      );
    }

pub overflow_add-to_offset : goal.overflow_add-to_offset
overflow_add-to_offset c =
    let v = small c.args.sheet
    c.requires in
    record {
      fits = omega (
        arith,
        v.date.year_high,
        v.date.month_high,
        c.said_field.ensures,
        c.said_field-2.ensures,
        c.said_field-3.ensures,
        c.offset_field.ensures.0,
      );
    }

pub overflow_mul-result : goal.overflow_mul-result
overflow_mul-result c =
    let v = small c.args.sheet
    c.requires in
    record {
      fits = omega (
        arith,
        v.date.year_high,
        v.date.month_high,
        c.said_field.ensures,
        c.said_field-2.ensures,
        c.said_field-3.ensures,
        c.offset_field.ensures.0,
      );
    }

pub returns : goal.returns
returns c =
    word_is c.args.sheet
    c.said_field.ensures c.said_field-2.ensures c.said_field-3.ensures
    c.offset_field.ensures.0
