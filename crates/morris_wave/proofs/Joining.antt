-- Nodes that are taken in one chunk after the other, each of them once at most.
use Rattle.std.proofs.Common.{◌≡◌, ℕ, ◌+◌, ◌%◌, ◌<◌, ◌≤◌, ◌&&◌, ◌||◌, eqb, List, [], ◌++◌, length, get_or, refl, sym, ap, ◌∙◌, ⊎_elim, arith}
use Rattle.std.proofs.lemmas.Bool.{cases_lt}
use Rattle.std.proofs.lemmas.Bool.Decides.{nat_tests}
use Rattle.std.proofs.lemmas.List.Folds.{list_any-append}
use Rattle.morris_wave.specs.Nets.{times}
use Rattle.morris_wave.specs.Solving.{among}
use Rattle.morris_wave.specs.NodeRanges.{Takes, left_of}
use Rattle.morris_wave.specs.Counts.{counts_of, most_of, left_at, left_of_byte}
use Rattle.morris_wave.specs.declared.counters.Counters.{Counters}
use Rattle.morris_wave.specs.declared.counters.Counters.TheVariants.{Bytes, Words}
use Rattle.morris_wave.proofs.Tests.{some_counted}
use Rattle.morris_wave.proofs.Ranks.{times-append}
use Rattle.morris_wave.proofs.Marking.{marked_none, marks_twice}

pub takes_none : (n first : ℕ) (codes counters : List ℕ) → ((k : ℕ) → k < length counters → get_or counters k 0 < 65536) → Takes n first [] codes codes counters counters
takes_none n first codes counters small = record {
  odd = λ _. (λ k l. sym (marked_none (get_or codes k 0) (n + 1)), refl);
  even = λ _. (λ k l. omega (arith, small k l), λ k l. sym (marked_none (get_or codes k 0) (n + 1)));
}

-- a node of either chunk is spent by it
spent : (i : ℕ) (a b : List ℕ) (mid new : ℕ) → times i (a ++ b) ≤ 1 → new < 65536 → (new + times i b) % 65536 ≡ mid
    → (among (a ++ b) i && eqb new 0) ≡ ((among a i && eqb mid 0) || (among b i && eqb new 0))
spent i a b mid new once small falls =
    grind (arith, nat_tests, some_counted (λ x. eqb x i) a, some_counted (λ x. eqb x i) b, list_any-append (λ x. eqb x i) a b, times-append i a b, once, small, falls)

module _ (n first : ℕ) (a b codes mcodes ncodes counters mcounters ncounters : List ℕ) (codes_len : length mcodes ≡ length codes) (counters_len : length mcounters ≡ length counters) (len : length counters ≡ length codes)
    (once : (k : ℕ) → k < length codes → times (first + k) (a ++ b) ≤ 1) (small : (k : ℕ) → k < length codes → get_or ncounters k 0 < 65536) where
  pub takes_joins : Takes n first a codes mcodes counters mcounters → Takes n first b mcodes ncodes mcounters ncounters → Takes n first (a ++ b) codes ncodes counters ncounters
  takes_joins x y = record {
    odd = λ o.
        let p = x.odd o in
        let q = y.odd o in (
          marks_twice codes mcodes ncodes (λ k. among a (first + k)) (λ k. among b (first + k)) (λ k. among (a ++ b) (first + k)) (n + 1) (omega arith) codes_len
              (λ k l. list_any-append (λ x. eqb x (first + k)) a b) p.0 q.0,
          q.1 ∙ p.1,
        );
    even = λ e.
        let p = x.even e in
        let q = y.even e in (
          λ k l. omega (arith, times-append (first + k) a b, p.0 k l, q.0 k (omega (arith, l, counters_len))),
          marks_twice codes mcodes ncodes (λ k. among a (first + k) && eqb (get_or mcounters k 0) 0) (λ k. among b (first + k) && eqb (get_or ncounters k 0) 0)
              (λ k. among (a ++ b) (first + k) && eqb (get_or ncounters k 0) 0) (n + 1) (omega arith) codes_len
              (λ k l. spent (first + k) a b (get_or mcounters k 0) (get_or ncounters k 0) (once k l) (small k l) (q.0 k (omega (arith, l, len, counters_len)))) p.1 q.1,
        );
  }

-- counters of one width that read the same have as many falls left
left_same : (old new : Counters) (k : ℕ) → most_of new ≡ most_of old → get_or (counts_of new) k 0 ≡ get_or (counts_of old) k 0 → left_at new k ≡ left_at old k
left_same (Bytes old) (Bytes new) k most same = ap left_of_byte same
left_same (Words old) (Words new) k most same = ap left_of same
left_same (Bytes old) (Words new) k most same = absurd (omega (arith, most))
left_same (Words old) (Bytes new) k most same = absurd (omega (arith, most))

-- what falls in the second chunk didn't in the first one
pub left_later : (old new : Counters) (i k : ℕ) (a b : List ℕ) → most_of new ≡ most_of old → (get_or (counts_of new) k 0 + times i a) % 65536 ≡ get_or (counts_of old) k 0
    → get_or (counts_of new) k 0 < 65536 → times i (a ++ b) ≤ 1 → times i (a ++ b) ≤ left_at old k → times i b ≤ left_at new k
left_later old new i k a b most falls small once enough =
    let both : times i (a ++ b) ≡ times i a + times i b = times-append i a b in
    ⊎_elim
    (λ (some : 0 < times i b). omega (arith, both, enough, left_same old new k most (omega (arith, falls, small, both, once, some))))
    (λ (none : times i b ≤ 0). omega (arith, none))
    (cases_lt 0 (times i b))
