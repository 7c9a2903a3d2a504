-- How a block goes from wave to wave.
use Rattle.std.proofs.Common.{◌≡◌, ℕ, ◌+◌, ◌-◌, ◌*◌, ◌<◌, ◌≤◌, Bool, true, false, not, ◌&&◌, ◌||◌, eqb, ltb, List, [], length, get_or, set, sym, ap, ap₂, ◌∙◌, subst, ⊎_elim, arith, get_or-set_same, get_or-set_other, length-set}
use Rattle.std.specs.List.{count_by, All}
use Rattle.std.proofs.Math.Nat.{div-lt_iff_lt-mul, mul-le-mul_right}
use Rattle.std.proofs.lemmas.Bool.{and_parts, or_left, eqb-true, eq-eqb, ne_eqb, ltb-true, lt-ltb, cases_eq}
use Rattle.std.proofs.lemmas.Bool.Decides.{nat_tests}
use Rattle.std.proofs.lemmas.List.{get_or-replicate, length-replicate}
use Rattle.std.proofs.lemmas.List.Sums.{AllPass-from_list_all}
use Rattle.morris_wave.specs.Nets.{Net, IsNet, times}
use Rattle.morris_wave.specs.Lists.{list_at}
use Rattle.morris_wave.specs.Exits.{is_odd}
use Rattle.morris_wave.specs.Waves.{is_fresh}
use Rattle.morris_wave.specs.Solving.{every, none}
use Rattle.morris_wave.specs.NodeRanges.{NodeRangeHolds, Takes, left_of}
use Rattle.morris_wave.specs.Counts.{AreFew}
use Rattle.morris_wave.specs.Blocks.{Parts, IsCut, first_of, block_of, IsIn, BlockState, BlockHolds, is_complete, in_applied, count_of, first_wave, next_wave_of}
use Rattle.morris_wave.specs.Batches.{is_from_to, BatchState, BatchHolds}
use Rattle.morris_wave.proofs.ExitTests.{or_false}
use Rattle.morris_wave.proofs.Stretches.{take_enough, take_few, due_enough, due_few, take_holds, next_holds, holds_alike, first_holds}

-- A node is from the end of a piece on or in the piece, exactly where it is from its beginning on.
one_piece : (j low high : ℕ) → low ≤ high → (not (ltb j high) || is_from_to low high j) ≡ (eqb low 0 || not (ltb j low))
one_piece j low high le = grind (arith, nat_tests)

-- a node of the graph is in a block of the cut
pub block_of-lt : (c : Parts) → IsCut c → (j : ℕ) → j < c.size → block_of c j < c.blocks
block_of-lt c law j l =
    let le : (j + 1) * c.blocks ≤ c.size * c.blocks = mul-le-mul_right c.blocks (omega arith) in
    (div-lt_iff_lt-mul {k = c.size} {x = (j + 1) * c.blocks - 1} {y = c.blocks} (omega arith)).1 (omega (arith, le, law.some))

-- no block begins past the end
pub first_of-le : (c : Parts) → IsCut c → (k : ℕ) → k ≤ c.blocks → first_of c k ≤ c.size
first_of-le c law k l =
    let le : k * c.size ≤ c.blocks * c.size = mul-le-mul_right c.size l in
    let below = (div-lt_iff_lt-mul {k = c.blocks} {x = c.size * k} {y = c.size + 1} (omega (arith, law.some))).1 (omega (arith, le, law.some)) in
    omega (arith, below)

-- before the first wave
pub make_holds : {g : Net} (law : IsNet g) (level number : ℕ) (cut : Parts) {first : ℕ} {codes counters : List ℕ} {due : List (List ℕ)} {last_due most : ℕ} → IsCut cut → g.size ≡ cut.size → number < cut.blocks
    → first ≡ first_of cut number → length codes ≡ count_of (first_wave level cut number) → NodeRangeHolds g 0 every first codes counters due last_due → AreFew g first (length codes) most
    → BlockHolds g (first_wave level cut number) first codes counters due last_due most
make_holds law level number cut is_cut size inside first_is count_is node_range few = record {
  cut = is_cut;
  size = size;
  number = inside;
  sources = length-replicate cut.blocks true;
  starts = length-replicate cut.blocks 0;
  wave = omega arith;
  first_is = first_is;
  count_is = count_is;
  node_range = first_holds law (in_applied (first_wave level cut number)) node_range;
  few = few;
}

module _ {g : Net} (law : IsNet g) {s : BlockState} {first : ℕ} {codes counters : List ℕ} {due : List (List ℕ)} {last_due most : ℕ} (h : BlockHolds g s first codes counters due last_due most) where
  -- the nodes of the block are those of its range
  pub inside_low : (i : ℕ) → IsIn s.cut s.number i → first ≤ i
  inside_low i inside = omega (arith, inside.0, h.first_is)

  pub inside_high : (i : ℕ) → IsIn s.cut s.number i → i < first + length codes
  inside_high i inside = omega (arith, inside.0, inside.1, h.first_is, h.count_is)

  pub node_inside : (i : ℕ) → first ≤ i → i < first + length codes → IsIn s.cut s.number i
  node_inside i low high = (omega (arith, low, h.first_is), omega (arith, low, high, h.first_is, h.count_is))

  -- a batch that goes on with a source that isn't applied yet
  module _ {b : BatchState} (hb : BatchHolds g b) (cut : b.cut ≡ s.cut) (wave : b.wave ≡ s.wave) (target : b.target ≡ s.number) (fresh : get_or s.applied b.source false ≡ false)
      (turn : b.high ≡ get_or s.taken_from b.source 0) where
    abbrev sent : ℕ → Bool
    sent j = eqb (block_of s.cut j) b.source && is_from_to b.low b.high j

    abbrev after : BlockState
    after = record s { applied = set s.applied b.source (eqb b.low 0); taken_from = set s.taken_from b.source b.low }

    taken : (k : ℕ) → k < length codes → times (first + k) b.nodes ≡ count_by (λ j. sent j && is_fresh g s.wave j) (g.quiet (first + k))
    taken k l =
        let at = node_inside (first + k) (omega arith) (omega (arith, l)) in
        hb.often (first + k) (omega (arith, at.0, ap₂ first_of cut target), omega (arith, at.1, ap₂ (λ c t. first_of c (t + 1)) cut target))
        ∙ ap₂ (λ c w. count_by (λ j. (eqb (block_of c j) b.source && is_from_to b.low b.high j) && is_fresh g w j) (g.quiet (first + k))) cut wave

    apart : (j : ℕ) → sent j ≡ true → in_applied s j ≡ false
    apart j e =
        let of = and_parts (eqb (block_of s.cut j) b.source) (is_from_to b.low b.high j) e in
        let between = and_parts (not (ltb j b.low)) (ltb j b.high) of.1 in
        let below : ltb j (get_or s.taken_from b.source 0) ≡ true = lt-ltb j (get_or s.taken_from b.source 0) (omega (arith, ltb-true j b.high between.1, turn)) in
        subst (λ x. (get_or s.applied x false || not (ltb j (get_or s.taken_from x 0))) ≡ false) (sym (eqb-true (block_of s.cut j) b.source of.0)) (ap₂ (λ a t. a || not t) fresh below)

    pub batch_inside : All (λ i. (first ≤ i) × (i < first + length codes)) b.nodes
    batch_inside p d l =
        let at = hb.inside p d l in
        (omega (arith, at.0, ap₂ first_of cut target, h.first_is), omega (arith, at.0, at.1, ap₂ first_of cut target, ap₂ (λ c t. first_of c (t + 1)) cut target, h.first_is, h.count_is))

    pub apply_enough : is_odd s.wave ≡ false → (k : ℕ) → k < length codes → times (first + k) b.nodes ≤ left_of (get_or counters k 0)
    apply_enough even k l = take_enough law h.node_range sent b.nodes taken apart even k l

    pub apply_few : is_odd s.wave ≡ false → (k : ℕ) → k < length codes → most ≤ 255 → times (first + k) b.nodes ≤ get_or counters k 0
    apply_few even k l le = take_few law h.node_range sent b.nodes taken apart even k l (omega (arith, h.few k l, le))

    source_in : b.source < length s.applied
    source_in = omega (arith, hb.source, h.sources, ap (λ c. c.blocks) cut)

    start_in : b.source < length s.taken_from
    start_in = omega (arith, hb.source, h.starts, ap (λ c. c.blocks) cut)

    joins_source : (j : ℕ) → block_of s.cut j ≡ b.source → (in_applied s j || sent j) ≡ in_applied after j
    joins_source j e = before ∙ (one_piece j b.low b.high hb.order ∙ sym now)
      where
        before : (in_applied s j || sent j) ≡ (not (ltb j b.high) || is_from_to b.low b.high j)
        before =
            ap₂ (λ a t. (a || not (ltb j t)) || sent j) (subst (λ x. get_or s.applied x false ≡ false) (sym e) fresh) (subst (λ x. get_or s.taken_from x 0 ≡ b.high) (sym e) (sym turn))
            ∙ ap (λ q. not (ltb j b.high) || (q && is_from_to b.low b.high j)) (eq-eqb (block_of s.cut j) b.source e)

        now : in_applied after j ≡ (eqb b.low 0 || not (ltb j b.low))
        now =
            ap₂ (λ a t. a || not (ltb j t))
            (subst (λ x. get_or (set s.applied b.source (eqb b.low 0)) x false ≡ eqb b.low 0) (sym e) (get_or-set_same s.applied b.source (eqb b.low 0) false source_in))
            (subst (λ x. get_or (set s.taken_from b.source b.low) x 0 ≡ b.low) (sym e) (get_or-set_same s.taken_from b.source b.low 0 start_in))

    joins_other : (j : ℕ) → (block_of s.cut j ≡ b.source → ⊥) → (in_applied s j || sent j) ≡ in_applied after j
    joins_other j e =
        ap (λ q. in_applied s j || (q && is_from_to b.low b.high j)) (ne_eqb (block_of s.cut j) b.source e)
        ∙ (sym (or_false (in_applied s j))
        ∙ sym (ap₂ (λ a t. a || not (ltb j t)) (get_or-set_other s.applied b.source (block_of s.cut j) (eqb b.low 0) false e) (get_or-set_other s.taken_from b.source (block_of s.cut j) b.low 0 e)))

    joins : (j : ℕ) → (in_applied s j || sent j) ≡ in_applied after j
    joins j = ⊎_elim (joins_source j) (joins_other j) (cases_eq (block_of s.cut j) b.source)

    pub apply_holds : (codes' counters' : List ℕ) → length codes' ≡ length codes → length counters' ≡ length counters → ((k : ℕ) → k < length counters' → get_or counters' k 0 < 65536)
        → Takes s.wave first b.nodes codes codes' counters counters' → BlockHolds g after first codes' counters' due last_due most
    apply_holds codes' counters' codes_len counters_len small takes = record {
      cut = h.cut;
      size = h.size;
      number = h.number;
      sources = length-set s.applied b.source (eqb b.low 0) ∙ h.sources;
      starts = length-set s.taken_from b.source b.low ∙ h.starts;
      wave = h.wave;
      first_is = h.first_is;
      count_is = codes_len ∙ h.count_is;
      node_range = holds_alike law (take_holds law h.node_range sent b.nodes taken apart codes' counters' codes_len counters_len small takes) (in_applied after) (λ j l. joins j);
      few = λ k l. h.few k (omega (arith, codes_len, l));
    }

  -- a complete wave
  module _ (complete : is_complete s ≡ true) where
    all_applied : (j : ℕ) → j < g.size → in_applied s j ≡ true
    all_applied j l =
        or_left (get_or s.applied (block_of s.cut j) false) (not (ltb j (get_or s.taken_from (block_of s.cut j) 0)))
        (AllPass-from_list_all (λ b. b) s.applied complete (block_of s.cut j) false (omega (arith, block_of-lt s.cut h.cut j (omega (arith, h.size, l)), h.sources)))

    pub complete_holds : NodeRangeHolds g s.wave every first codes counters due last_due
    complete_holds = holds_alike law h.node_range every all_applied

    pub advance_enough : s.wave < 65534 → (k : ℕ) → k < length codes → times (first + k) (list_at due (s.wave + 1)) ≤ left_of (get_or counters k 0)
    advance_enough last k l = due_enough law complete_holds last k l

    pub advance_few : s.wave < 65534 → is_odd (s.wave + 1) ≡ false → (k : ℕ) → k < length codes → most ≤ 255 → times (first + k) (list_at due (s.wave + 1)) ≤ get_or counters k 0
    advance_few last even k l le = due_few law complete_holds last even k l (omega (arith, h.few k l, le))

    none_applied : (j : ℕ) → j < s.cut.size → none j ≡ in_applied (next_wave_of s) j
    none_applied j l =
        let inside = block_of-lt s.cut h.cut j l in
        sym
        (ap₂ (λ a t. a || not (ltb j t)) (get_or-replicate s.cut.blocks (block_of s.cut j) false false inside) (get_or-replicate s.cut.blocks (block_of s.cut j) s.cut.size 0 inside)
        ∙ ap not (lt-ltb j s.cut.size l))

    pub advance_holds : s.wave < 65534 → (codes' counters' : List ℕ) → length codes' ≡ length codes → length counters' ≡ length counters
        → ((k : ℕ) → k < length counters' → get_or counters' k 0 < 65536) → Takes (s.wave + 1) first (list_at due (s.wave + 1)) codes codes' counters counters'
        → BlockHolds g (next_wave_of s) first codes' counters' (set due (s.wave + 1) []) last_due most
    advance_holds last codes' counters' codes_len counters_len small comes = record {
      cut = h.cut;
      size = h.size;
      number = h.number;
      sources = length-replicate s.cut.blocks false;
      starts = length-replicate s.cut.blocks s.cut.size;
      wave = omega (arith, last);
      first_is = h.first_is;
      count_is = codes_len ∙ h.count_is;
      node_range = holds_alike law (next_holds law complete_holds last codes' counters' codes_len counters_len small comes) (in_applied (next_wave_of s))
          (λ j l. none_applied j (omega (arith, h.size, l)));
      few = λ k l. h.few k (omega (arith, codes_len, l));
    }

pub same_parts : (c d : Parts) → (eqb c.size d.size && eqb c.blocks d.blocks) ≡ true → c ≡ d
same_parts c d h =
    let w = and_parts (eqb c.size d.size) (eqb c.blocks d.blocks) h in
    let make : ℕ → ℕ → Parts = λ x y. record { size = x; blocks = y } in
    ap₂ make (eqb-true c.size d.size w.0) (eqb-true c.blocks d.blocks w.1)
