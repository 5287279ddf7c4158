use Rattle.std.proofs.Common.{◌≡◌, ◌+◌, ◌-◌, eqb, length, take, Err, sym, ap, ◌∙◌, arith}
use Rattle.std.proofs.lemmas.Bool.{cond-false}
use Rattle.std.proofs.lemmas.List.{take_rest}
use Rattle.std.specs.List.{prefix_len}
use Rattle.std.specs.Option.{unwrap_or}
use Rattle.ucd.specs.Bytes.{InField, is}
use Rattle.ucd.specs.Lines.{field}
use Rattle.ucd.proofs.Layouts.{first_or_end, blank_line, both_fields, data_line}
use Rattle.ucd.proofs.Standing.{parts_stand}
use Rattle.ucd.proofs.parts.take_apart.Goals as goal

pub returns-then-is_empty : goal.returns-then-is_empty
returns-then-is_empty c =
    let line = c.args.line.now in
    let end = c.unwrap_or-end.result in
    let run = c.unwrap_or-end.ensures ∙ ap (λ o. unwrap_or o (length line)) c.first_place.ensures ∙ first_or_end 35 line in
    let front : take (end - 0) line ≡ take end line = ap (λ n. take n line) (omega arith) in
    record {
      parts = blank_line line _ _ _ end c.if-line-gt-LONGEST_LINE.false run front c.core.ensures c.if-is_empty.ensures (take_rest line end);
      stand = parts_stand line;
    }

pub returns-in_default : goal.returns-in_default
returns-in_default c =
    let line = c.args.line.now in
    let end = c.unwrap_or-end.result in
    let run = c.unwrap_or-end.ensures ∙ ap (λ o. unwrap_or o (length line)) c.first_place.ensures ∙ first_or_end 35 line in
    let front : take (end - 0) line ≡ take end line = ap (λ n. take n line) (omega arith) in
    let laid = data_line line _ _ _ end c.if-line-gt-LONGEST_LINE.false run front c.core.ensures c.if-is_empty.ensures (take_rest line end) in
    record {
      parts = sym laid ∙ cond-false _ _ _ c.in_default.ensures ∙ ap Err (sym c.fault_of_line-in_default.ensures);
      stand = parts_stand line;
    }

pub returns : goal.returns
returns c =
    let line = c.args.line.now in
    let end = c.unwrap_or-end.result in
    let run = c.unwrap_or-end.ensures ∙ ap (λ o. unwrap_or o (length line)) c.first_place.ensures ∙ first_or_end 35 line in
    let front : take (end - 0) line ≡ take end line = ap (λ n. take n line) (omega arith) in
    let laid = data_line line _ _ _ end c.if-line-gt-LONGEST_LINE.false run front c.core.ensures c.if-is_empty.ensures (take_rest line end) in
    let s = take (end - 0) line in
    let h = c.in-Some.ensures in
    let behind : c.in-Some.value.place ≡ prefix_len (is InField) s + 1 = omega (arith, h.2.1) in
    record {
      parts = sym laid ∙ both_fields (eqb end (length line)) s _ _ _ h.0 (c.field.ensures ∙ (λ i. field (h.1.0 i) (h.1.1 i) (h.1.2 i))) (c.field-2.ensures ∙ (λ i. field (h.2.0 i) (behind i) (h.2.2 i)));
      stand = parts_stand line;
    }
