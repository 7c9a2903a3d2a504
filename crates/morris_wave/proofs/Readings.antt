-- What is read of the exits of a range, node after node.
use Rattle.std.proofs.Common.{◌≡◌, ℕ, ◌+◌, ◌%◌, ◌<◌, ◌≤◌, max, false, ◌&&◌, ◌||◌, cond, eqb, ltb, List, Option, Some, None, length, get_or, set, refl, sym, ap, ap₂, ◌∙◌, subst, ⊎_elim, arith, get_or-set_other, get_or-set_same}
use Rattle.std.proofs.lemmas.Bool.{cases_eq, cases_lt, eq-eqb, ne_eqb, le-ltb}
use Rattle.morris_wave.specs.declared.graph.Exits.{Exits}
use Rattle.morris_wave.specs.Nets.{Net, times}
use Rattle.morris_wave.specs.Lists.{list_at}
use Rattle.morris_wave.specs.Exits.{exits_of, exits_won, some_below, last_due_of}
use Rattle.morris_wave.specs.Waves.{entry_at, mark_code, settles}
use Rattle.morris_wave.specs.Solving.{Marks, every}
use Rattle.morris_wave.specs.NodeRanges.{HasRead, ListsDue, NodeRangeHolds, due_wave, due_within, pending_at, waits}
use Rattle.morris_wave.proofs.Tests.{at_most_one}
use Rattle.morris_wave.proofs.Advancing.{entry_first}
use Rattle.morris_wave.proofs.Steps.{pending_first}
use Rattle.morris_wave.proofs.Marking.{marked_none}

-- nothing is lost before the first wave
none_below : (o : Option ℕ) → some_below 0 o ≡ false
none_below None = refl
none_below (Some x) = le-ltb x 0 (omega arith)

settles_first : (c : ℕ) (e : Exits) → settles 0 c e ≡ (eqb c 0 && exits_won 0 e)
settles_first c e = ap (λ t. t || (eqb c 0 && exits_won 0 e)) (none_below e.least_lost)

module _ {g : Net} {most first place : ℕ} {codes counters waves : List ℕ} {last : ℕ} (h : HasRead g most first place codes counters waves last)
    (codes' : List ℕ) (quiet : ℕ) (e : Exits) (inside : place < length codes) (len : length codes' ≡ length codes) (counters_len : length counters ≡ length codes) (waves_len : length waves ≡ length codes)
    (few : quiet < most) (counted : quiet ≡ length (g.quiet (first + place))) (is : e ≡ exits_of (g.exits (first + place)))
    (marks : Marks codes codes' (λ k. eqb place k && (eqb quiet 0 && exits_won 0 e)) 1) where
  code_here : get_or codes' place 0 ≡ entry_at g 0 every (first + place)
  code_here =
      marks place inside
      ∙ (ap₂ (λ x t. mark_code x (t && (eqb quiet 0 && exits_won 0 e)) 1) (h.open_yet place (omega arith) inside) (eq-eqb place place refl)
      ∙ (ap (λ t. mark_code 0 t 1) (sym (settles_first quiet e))
      ∙ (ap₂ (λ c x. mark_code 0 (settles 0 c x) 1) counted is
      ∙ sym (entry_first g every (first + place)))))

  code_other : (k : ℕ) → k < length codes → (place ≡ k → ⊥) → get_or codes' k 0 ≡ get_or codes k 0
  code_other k l ne =
      marks k l
      ∙ (ap (λ t. mark_code (get_or codes k 0) (t && (eqb quiet 0 && exits_won 0 e)) 1) (ne_eqb place k ne)
      ∙ marked_none (get_or codes k 0) 1)

  pub read_more : HasRead g most first (place + 1) codes' (set counters place ((quiet + waits 0 e) % 65536)) (set waves place (due_within (due_wave e))) (max last (last_due_of e))
  read_more = record {
    few = λ k l.
        ⊎_elim
        (λ q. subst (λ x. length (g.quiet (first + x)) < most) q (subst (λ n. n < most) counted few))
        (λ q. h.few k (omega (arith, l, q)))
        (cases_eq place k);
    codes_are = λ k l.
        ⊎_elim
        (λ q. subst (λ x. get_or codes' x 0 ≡ entry_at g 0 every (first + x)) q code_here)
        (λ q. let before : k < place = omega (arith, l, q) in code_other k (omega (arith, before, inside)) q ∙ h.codes_are k before)
        (cases_eq place k);
    counters_are = λ k l.
        ⊎_elim
        (λ q. subst (λ x. get_or (set counters place ((quiet + waits 0 e) % 65536)) x 0 ≡ pending_at g 0 every (first + x) % 65536) q
        (get_or-set_same counters place ((quiet + waits 0 e) % 65536) 0 (omega (arith, counters_len, inside))
        ∙ (ap₂ (λ c x. (c + waits 0 x) % 65536) counted is
        ∙ ap (λ c. c % 65536) (sym (pending_first g every (first + place))))))
        (λ q. let before : k < place = omega (arith, l, q) in
        get_or-set_other counters place k ((quiet + waits 0 e) % 65536) 0 (λ z. q (sym z)) ∙ h.counters_are k before)
        (cases_eq place k);
    waves_are = λ k l.
        ⊎_elim
        (λ q. subst (λ x. get_or (set waves place (due_within (due_wave e))) x 0 ≡ due_within (due_wave (exits_of (g.exits (first + x))))) q
        (get_or-set_same waves place (due_within (due_wave e)) 0 (omega (arith, waves_len, inside)) ∙ ap (λ x. due_within (due_wave x)) is))
        (λ q. let before : k < place = omega (arith, l, q) in
        get_or-set_other waves place k (due_within (due_wave e)) 0 (λ z. q (sym z)) ∙ h.waves_are k before)
        (cases_eq place k);
    bound = λ k l.
        ⊎_elim
        (λ q. subst (λ x. last_due_of (exits_of (g.exits (first + x))) ≤ max last (last_due_of e)) q (omega (arith, ap last_due_of is)))
        (λ q. let before : k < place = omega (arith, l, q) in omega (arith, h.bound k before))
        (cases_eq place k);
    reached = λ some.
        ⊎_elim
        (λ (q : last < last_due_of e). (place, (omega arith, omega (arith, q, ap last_due_of is))))
        (λ (q : last_due_of e ≤ last). let w = h.reached (omega (arith, q, some)) in (w.0, (omega (arith, w.1.0), omega (arith, q, w.1.1))))
        (cases_lt last (last_due_of e));
    open_yet = λ k low l.
        let within : k < length codes = omega (arith, len, l) in
        code_other k within (λ z. omega (arith, z, low)) ∙ h.open_yet k (omega (arith, low)) within;
    unwritten = λ k low l.
        get_or-set_other waves place k (due_within (due_wave e)) 0 (λ z. omega (arith, z, low)) ∙ h.unwritten k (omega (arith, low)) (omega (arith, len, l));
  }

-- equal waves are listed alike
lists_alike : (f h : ℕ → ℕ) (first count : ℕ) (due : List (List ℕ)) → ((k : ℕ) → k < count → f k ≡ h k) → ListsDue f 0 first count due → ListsDue h 1 first count due
lists_alike f h first count due same l = record {
  inside = l.inside;
  once = λ n k s q. subst (λ x. times (first + k) (list_at due n) ≡ cond {A = ℕ} (ltb 0 n && eqb x n) 1 0) (same k q) (l.once n k (omega arith) q);
}

-- what was read of every node
module _ {g : Net} {most first : ℕ} {codes counters waves : List ℕ} {last : ℕ} (h : HasRead g most first (length codes) codes counters waves last) (due : List (List ℕ)) where
  pub read_all : first + length codes ≤ g.size → length counters ≡ length codes → length waves ≡ length codes → ListsDue (λ k. get_or waves k 0) 0 first (length waves) due
      → NodeRangeHolds g 0 every first codes counters due last
  read_all in_graph counters_len waves_len listed = record {
    in_graph = in_graph;
    counters_len = counters_len;
    codes_are = h.codes_are;
    counters_are = h.counters_are;
    due_are = lists_alike (λ k. get_or waves k 0) (λ k. due_within (due_wave (exits_of (g.exits (first + k))))) first (length codes) due h.waves_are
        (subst (λ n. ListsDue (λ k. get_or waves k 0) 0 first n due) waves_len listed);
    bound = h.bound;
    reached = h.reached;
  }

-- a node comes due once at most
pub due_once : (f : ℕ → ℕ) (first count : ℕ) (due : List (List ℕ)) → ListsDue f 0 first count due → (n k : ℕ) → k < count → times (first + k) (list_at due n) ≤ 1
due_once f first count due h n k l = omega (arith, h.once n k (omega arith) l, at_most_one (ltb 0 n && eqb (f k) n))
