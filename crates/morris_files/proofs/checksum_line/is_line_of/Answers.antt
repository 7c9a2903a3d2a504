-- A line that is too short, or has another byte in front, is that of no file.
use Rattle.std.proofs.Common.{◌≡◌, ◌-◌, ◌++◌, length, take, drop, codes, sym, ap, ◌∙◌, arith, rules}
use Rattle.std.specs.Prelude.{string_bytes}
use Rattle.std.specs.Str.{bytes_eq}
use Rattle.morris_index.specs.Pairs.{counts}
use Rattle.morris_files.specs.Names.{name_of}
use Rattle.morris_files.proofs.LineLaws.{is_line_of-end, is_line_of-other, is_line_of-short}
use Rattle.morris_files.proofs.checksum_line.is_line_of.Goals as goal

pub returns-then-line-lt-DIGITS : goal.returns-then-line-lt-DIGITS
returns-then-line-lt-DIGITS c = is_line_of-short _ c.args.line.now _ (omega arith)

pub returns-then-not-are_digits : goal.returns-then-not-are_digits
returns-then-not-are_digits c = is_line_of-other _ c.args.line.now _ (sym c.if-not-are_digits.true ∙ c.are_digits.ensures)

pub returns : goal.returns
returns c =
    let line = c.args.line.now in
    let end : string_bytes c.in_ok-end.end ≡ codes "  " ++ name_of c.args.board.now (counts c.args.greater c.args.lesser) = search rules in
    c.eq.ensures
    ∙ ap (bytes_eq (take (length line - 64) (drop 64 line))) (c.as_bytes.ensures.value ∙ end)
    ∙ is_line_of-end _ line _ (sym c.are_digits.ensures ∙ c.if-not-are_digits.false)
