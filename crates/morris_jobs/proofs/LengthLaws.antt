-- How long the printed texts are at most, so that their bytes can be counted.
use Rattle.std.proofs.Common.{◌≡◌, ℕ, ◌+◌, ◌*◌, ◌/◌, ◌%◌, ◌^◌, ◌<◌, ◌≤◌, Bool, true, false, List, [], ◌∷◌, ◌++◌, codes, drop, length, slice_index, Option, None, Some, arith, length-append, length-drop, subst, ap, if◌then◌else◌}
use Rattle.std.specs.Prelude.{nat_eq, nat_lt}
use Rattle.std.specs.List.{flat_map, range_with_len}
use Rattle.std.specs.Fmt.{decimal}
use Rattle.std.proofs.lemmas.List.FromFn.{length-range_with_len}
use Rattle.morris_board.proofs.LengthLaws.{by_test, decimal_few, flat_map_few}
use Rattle.morris_index.specs.Pairs.{Counts, size_of}
use Rattle.morris_probe.specs.Lines.{number_line}
use Rattle.morris_jobs.specs.Counted.{csv_depths, csv_half, csv_lesser, csv_line, csv_text, depth_label, depth_line, depth_lines, stats_text}
use Rattle.morris_jobs.specs.Verified.{verified_text}
use Rattle.morris_jobs.specs.Faults.{fault_number, fault_text, fault_words, length_around, own_text, words_of, stones_text}
use Rattle.morris_jobs.specs.declared.fault.Fault.{Fault}
use Rattle.morris_jobs.specs.declared.fault.Fault.TheVariants as fault
use Rattle.morris_jobs.specs.declared.wording.Words.{Words}
use Rattle.morris_jobs.specs.declared.wording.Words.TheVariants.{Plain, Number, Pair}
use Rattle.morris_jobs.specs.declared.progress_printer.ProgressEvent.{ProgressEvent}
use Rattle.morris_jobs.specs.declared.progress_printer.ProgressEvent.TheVariants as event
use Rattle.morris_jobs.specs.declared.progress_printer.SoFar.{SoFar}
use Rattle.morris_jobs.specs.Progress.{is_passing, with_label, left_text, event_line, event_text, percent_of, so_far_text}

-- ---- counts, as lines of plain text

depth_label_few : (depth : ℕ) → length (depth_label depth) ≤ 8
depth_label_few depth = by_test (nat_eq (depth % 2) 0) 8 (codes "lost in ") (codes "won in ") (omega arith) (omega arith)

depth_line_few : (depth count : ℕ) → length (depth_line depth count) ≤ 139
depth_line_few depth count =
    by_test (nat_eq count 0) 139 [] (depth_label depth ++ decimal depth ++ number_line (codes ": ") count) (omega arith)
    (simp length-append (omega (arith, depth_label_few depth, decimal_few depth, decimal_few count)))

depth_lines_few : (counts : List ℕ) → length (depth_lines counts) ≤ 139 * length counts
unfolding depth_lines
depth_lines_few counts =
    omega (
      arith,
      flat_map_few (λ depth. depth_line depth (slice_index counts depth)) 139 (λ depth. depth_line_few depth (slice_index counts depth))
          (range_with_len 0 (length counts)),
      length-range_with_len 0 (length counts),
    )

pub stats_few : (n : ℕ) (pair : Counts) (tallies : List ℕ) → length tallies ≤ 2 ^ 16 → length (stats_text n pair tallies) < 2 ^ 32
unfolding stats_text
stats_few n pair tallies few =
    simp length-append
    (omega (arith, few, decimal_few pair.greater, decimal_few pair.lesser, decimal_few (size_of n pair), depth_lines_few (drop 1 tallies), length-drop 1 tallies, decimal_few (slice_index tallies 0)))

-- ---- counts, as lines of fields

csv_line_few : (own other : ℕ) (result : List ℕ) (depth : Option ℕ) (count : ℕ) → length (csv_line own other result depth count) ≤ 259 + length result
csv_line_few own other result None count =
    by_test (nat_eq count 0) (259 + length result) [] (decimal own ++ (44 ∷ decimal other) ++ result ++ [] ++ number_line (codes ",") count) (omega arith)
    (simp length-append (omega (arith, decimal_few own, decimal_few other, decimal_few count)))
csv_line_few own other result (Some depth) count =
    by_test (nat_eq count 0) (259 + length result) [] (decimal own ++ (44 ∷ decimal other) ++ result ++ decimal depth ++ number_line (codes ",") count)
    (omega arith) (simp length-append (omega (arith, decimal_few own, decimal_few other, decimal_few depth, decimal_few count)))

csv_depths_few : (own other : ℕ) (result : List ℕ) (odd : ℕ) (counts : List ℕ)
    → length (csv_depths own other result odd counts) ≤ (259 + length result) * length counts
unfolding csv_depths
csv_depths_few own other result odd counts =
    let lines : ℕ → List ℕ = λ depth. if nat_eq (depth % 2) odd then csv_line own other result (Some depth) (slice_index counts depth) else [] in
    subst (λ n. length (flat_map lines (range_with_len 0 (length counts))) ≤ (259 + length result) * n) (length-range_with_len 0 (length counts))
    (flat_map_few lines (259 + length result) (λ depth. by_test (nat_eq (depth % 2) odd) (259 + length result)
    (csv_line own other result (Some depth) (slice_index counts depth)) [] (csv_line_few own other result (Some depth) (slice_index counts depth)) (omega arith))
    (range_with_len 0 (length counts)))

csv_half_few : (own other : ℕ) (tallies : List ℕ) → length (csv_half own other tallies) ≤ 265 + 600 * length tallies
unfolding csv_half
csv_half_few own other tallies =
    simp length-append
    (omega (
      arith,
      csv_line_few own other (codes ",draw,") None (slice_index tallies 0),
      csv_depths_few own other (codes ",won,") 1 (drop 1 tallies),
      csv_depths_few own other (codes ",lost,") 0 (drop 1 tallies),
      length-drop 1 tallies,
    ))

csv_lesser_few : (pair : Counts) (tallies : List ℕ) → length (csv_lesser pair tallies) ≤ 265 + 600 * length tallies
csv_lesser_few pair tallies =
    by_test (nat_eq pair.greater pair.lesser) (265 + 600 * length tallies) [] (csv_half pair.lesser pair.greater tallies) (omega arith)
    (csv_half_few pair.lesser pair.greater tallies)

pub csv_few : (pair : Counts) (lesser greater : List ℕ) → length lesser ≤ 2 ^ 16 → length greater ≤ 2 ^ 16 → length (csv_text pair lesser greater) < 2 ^ 63
unfolding csv_text
csv_few pair lesser greater few_lesser few_greater =
    simp length-append
    (omega (arith, few_lesser, few_greater, csv_lesser_few pair lesser, csv_half_few pair.greater pair.lesser greater))

-- ---- what `verify` prints

pub verified_few : (pair : Counts) (entries : ℕ) → length (verified_text pair entries) ≤ 2 ^ 10
unfolding verified_text
verified_few pair entries = simp length-append (omega (arith, decimal_few pair.greater, decimal_few pair.lesser, decimal_few entries))

-- ---- faults

said_few : (words : Words) → length (words_of words) ≤ length_around words + 129
said_few (Plain text) = omega arith
said_few (Number before number after) = simp length-append (omega (arith, decimal_few number))
said_few (Pair before greater lesser after) = simp length-append (omega (arith, decimal_few greater, decimal_few lesser))

-- of a fault with these words
text_few : (f : Fault) (words : Words) → words_of words ≡ own_text f → length_around words ≤ 64 → length (fault_text f) ≤ 339
text_few (fault.InFile greater lesser f) words e around =
    simp length-append (omega (arith, decimal_few greater, decimal_few lesser, said_few words, around, ap length e))
text_few f words e around = omega (arith, said_few words, around, ap length e)

pub fault_few : (f : Fault) (words : Words) → words_of words ≡ own_text f → length_around words ≤ 64 → length (fault_words f) ≤ 2 ^ 9
unfolding fault_words
fault_few f words e around = simp length-append (omega (arith, text_few f words e around, decimal_few (fault_number f)))

-- ---- progress

left_few : (seconds : ℕ) → length (left_text seconds) ≤ 81
left_few seconds =
    let minutes : ℕ = seconds / 60 + seconds % 60 / 30 in
    by_test (nat_eq seconds 0) 81 [] (if nat_lt seconds 120 then with_label (codes ", about ") seconds ++ codes " s left"
    else with_label (codes ", about ") minutes ++ codes " min left") (omega arith)
    (by_test (nat_lt seconds 120) 81 (with_label (codes ", about ") seconds ++ codes " s left") (with_label (codes ", about ") minutes ++ codes " min left")
    (simp length-append (omega (arith, decimal_few seconds))) (simp length-append (omega (arith, decimal_few minutes))))

-- the progress within a pair, after so many bytes
so_far_few : (front : List ℕ) (s : SoFar) → length front ≤ 280 → length (front ++ so_far_text s) ≤ 700
so_far_few front s few =
    simp length-append
    (omega (arith, few, decimal_few s.done, decimal_few s.whole, decimal_few (percent_of s.done s.whole), decimal_few s.seconds, left_few s.left))

event_few : (n : ProgressEvent) → length (event_text n) ≤ 700
event_few (event.Whole entries megabytes) = simp length-append (omega (arith, decimal_few entries, decimal_few megabytes))
event_few (event.Wave greater lesser wave s) =
    so_far_few (codes "progress: " ++ stones_text greater lesser ++ with_label (codes " wave ") wave) s
    (simp length-append (omega (arith, decimal_few greater, decimal_few lesser, decimal_few wave)))
event_few (event.Part greater lesser s) =
    so_far_few (codes "progress: " ++ stones_text greater lesser) s (simp length-append (omega (arith, decimal_few greater, decimal_few lesser)))
event_few (event.Done greater lesser s) =
    so_far_few (codes "progress: " ++ stones_text greater lesser ++ codes " done") s (simp length-append (omega (arith, decimal_few greater, decimal_few lesser)))
event_few event.Cleared = omega arith

pub event_line_few : (rewrites : Bool) (n : ProgressEvent) → length (event_line rewrites n) < 2 ^ 63
event_line_few false n = simp length-append (omega (arith, event_few n))
event_line_few true n =
    let end : length (if is_passing n then [] else (10 ∷ [])) ≤ 1 = by_test (is_passing n) 1 [] (10 ∷ []) (omega arith) (omega arith) in
    simp length-append (omega (arith, event_few n, end))
