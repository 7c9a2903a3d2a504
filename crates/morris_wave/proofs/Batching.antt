-- The batches of one block's fresh nodes.
use Rattle.std.proofs.Common.{◌≡◌, ℕ, suc, ◌+◌, ◌<◌, ◌&&◌, cond, eqb, List, [], ◌∷◌, ◌++◌, length, get_or, refl, sym, ap, ap₂, ◌∙◌, subst, ⊎_elim, arith}
use Rattle.std.specs.List.{All, count_by, sum_by}
use Rattle.std.proofs.lemmas.Bool.{cases_eq, cases_lt, eq-eqb, ne_eqb}
use Rattle.std.proofs.lemmas.Bool.Decides.{nat_tests}
use Rattle.std.proofs.lemmas.List.{length-map, length-append, map-append, get_or_at, get_or_append_left, get_or_push, length_push}
use Rattle.std.proofs.lemmas.List.Sums.{sum_by-cons, sum_by-append}
use Rattle.morris_wave.specs.Nets.{Net, IsNet, times}
use Rattle.morris_wave.specs.Waves.{is_fresh}
use Rattle.morris_wave.specs.Blocks.{Parts, IsIn, block_of}
use Rattle.morris_wave.specs.Batches.{is_from_to, FreshState, FreshHolds, BatchState, BatchHolds}
use Rattle.morris_wave.specs.Lists.{contents, list_at}
use Rattle.morris_wave.specs.Scattering.{AreSorted, Deals, LeadTo, batch_of, IsBatchOf}
use Rattle.morris_wave.proofs.Tests.{count-cons}
use Rattle.morris_wave.proofs.Ranks.{times_none}
use Rattle.morris_wave.proofs.Blocking.{first_of-le}
use Rattle.morris_wave.proofs.Cutting.{block_is, is_in_block}

eqb_comm : (a b : ℕ) → eqb a b ≡ eqb b a
eqb_comm a b = grind (arith, nat_tests)

sum_same : (p q : ℕ → ℕ) (xs : List ℕ) → All (λ x. p x ≡ q x) xs → sum_by p xs ≡ sum_by q xs
sum_same p q [] h = refl
sum_same p q (x ∷ xs) h =
    omega (arith, sum_by-cons p x xs, sum_by-cons q x xs, h 0 0 (omega arith), sum_same p q xs (λ k d l. h (suc k) d (omega arith)))

-- how often the numbers of one list stand in another, counted from either side
zeros : (ys : List ℕ) → sum_by (λ (j : ℕ). 0) ys ≡ 0
zeros [] = refl
zeros (y ∷ ys) = omega (arith, sum_by-cons (λ (j : ℕ). 0) y ys, zeros ys)

one_more : (x : ℕ) (xs ys : List ℕ) → sum_by (λ j. times j (x ∷ xs)) ys ≡ times x ys + sum_by (λ j. times j xs) ys
one_more x xs [] = refl
one_more x xs (y ∷ ys) =
    omega (
      arith,
      sum_by-cons (λ j. times j (x ∷ xs)) y ys,
      sum_by-cons (λ j. times j xs) y ys,
      count-cons (λ z. eqb z x) y ys,
      count-cons (λ z. eqb z y) x xs,
      ap (λ t. cond {A = ℕ} t 1 0) (eqb_comm x y),
      one_more x xs ys,
    )

pub both_sides : (xs ys : List ℕ) → sum_by (λ x. times x ys) xs ≡ sum_by (λ j. times j xs) ys
both_sides [] ys = sym (zeros ys)
both_sides (x ∷ xs) ys = omega (arith, sum_by-cons (λ z. times z ys) x xs, one_more x xs ys, both_sides xs ys)

pub not_there : (j : ℕ) (xs : List ℕ) → All (λ x. x ≡ j → ⊥) xs → times j xs ≡ 0
not_there j xs h = times_none j xs (λ p l. h p 0 l)

-- one chunk more, whose predecessors were dealt
pub lead_append : (g : Net) (c : Parts) (done piece : List ℕ) (old new : List (List ℕ)) (before : List ℕ)
    → ((i : ℕ) → i < c.size → times i before ≡ sum_by (λ x. times x (g.quiet i)) piece) → LeadTo g c old done → Deals c old new before → LeadTo g c new (done ++ piece)
lead_append g c done piece old new before law lead deals i l =
    omega (
      arith,
      deals i l,
      lead i l,
      law i l,
      sum_by-append (λ x. times x (g.quiet i)) done piece,
    )

pub fresh_inside : (g : Net) (f : FreshState) → FreshHolds g f → All (λ j. j < f.cut.size) f.nodes
fresh_inside g f h p d l = omega (arith, (h.inside p d l).1, first_of-le f.cut h.cut (f.source + 1) (omega (arith, h.source)))

module _ (g : Net) (law : IsNet g) (f : FreshState) (h : FreshHolds g f) where
  -- a node of another block isn't among the fresh ones
  times_fresh : (j : ℕ) → j < f.cut.size → times j f.nodes ≡ cond {A = ℕ} ((eqb (block_of f.cut j) f.source && is_from_to f.low f.high j) && is_fresh g f.wave j) 1 0
  times_fresh j l =
      ⊎_elim
      (λ e. h.once j (subst (λ k. IsIn f.cut k j) e (is_in_block f.cut h.cut j l))
      ∙ sym (ap (λ t. cond {A = ℕ} ((t && is_from_to f.low f.high j) && is_fresh g f.wave j) 1 0) (eq-eqb (block_of f.cut j) f.source e)))
      (λ e. not_there j f.nodes
      (λ p d q z. e (subst (λ x. block_of f.cut x ≡ f.source) z (block_is f.cut h.cut (get_or f.nodes p d) (fresh_inside g f h p d q) f.source (h.inside p d q))))
      ∙ sym (ap (λ t. cond {A = ℕ} ((t && is_from_to f.low f.high j) && is_fresh g f.wave j) 1 0) (ne_eqb (block_of f.cut j) f.source e)))
      (cases_eq (block_of f.cut j) f.source)

  pub batch_holds : (lists : List (List ℕ)) → length lists ≡ f.cut.blocks → AreSorted f.cut lists → LeadTo g f.cut lists f.nodes
      → (t : ℕ) → t < f.cut.blocks → BatchHolds g (batch_of f t (list_at lists t))
  batch_holds lists len sorted lead t l = record {
    source = h.source;
    target = l;
    order = h.order;
    some = h.some;
    inside = sorted t (omega arith);
    often = λ i inside. often i inside;
  }
    where
      often : (i : ℕ) → IsIn f.cut t i → times i (list_at lists t) ≡ count_by (λ j. (eqb (block_of f.cut j) f.source && is_from_to f.low f.high j) && is_fresh g f.wave j) (g.quiet i)
      often i inside =
          let small : i < f.cut.size = omega (arith, inside.1, first_of-le f.cut h.cut (t + 1) (omega arith)) in
          subst (λ b. times i (list_at lists b) ≡ sum_by (λ x. times x (g.quiet i)) f.nodes) (block_is f.cut h.cut i small t inside) (lead i small)
          ∙ (both_sides f.nodes (g.quiet i)
          ∙ sum_same (λ j. times j f.nodes) (λ j. cond {A = ℕ} ((eqb (block_of f.cut j) f.source && is_from_to f.low f.high j) && is_fresh g f.wave j) 1 0) (g.quiet i)
          (λ p d q. times_fresh (get_or (g.quiet i) p d) (omega (arith, law.inside i (omega (arith, h.size)) p d q, h.size))))

-- the next of the lists, as the batch for the next block
pub next_batch : {A : Type 0} (items : A → List ℕ) (g : Net) → IsNet g → (f : FreshState) → FreshHolds g f → (lists before rest : List A) (nodes : A) (t : ℕ)
    → length lists ≡ f.cut.blocks → lists ≡ before ++ nodes ∷ rest → t ≡ length before → AreSorted f.cut (contents items lists) → LeadTo g f.cut (contents items lists) f.nodes
    → BatchHolds g (batch_of f t (items nodes))
next_batch items g law f h lists before rest nodes t len is at sorted lead =
    subst (λ xs. BatchHolds g (batch_of f t xs)) here
    (batch_holds g law f h (contents items lists) (length-map lists items ∙ len) sorted lead t (omega (arith, ap length is, length-append before (nodes ∷ rest))))
  where
    here : list_at (contents items lists) t ≡ items nodes
    here =
        ap₂ (λ xs k. list_at (contents items xs) k) is at
        ∙ (ap (λ xs. list_at xs (length before)) (map-append items before (nodes ∷ rest))
        ∙ get_or_at (contents items before) (items nodes) (contents items rest) [] (length before) (length-map before items))

pub sealed : (g : Net) (f : FreshState) (t : ℕ) (nodes : List ℕ) (b : BatchState) → b ≡ batch_of f t nodes → BatchHolds g b → IsBatchOf g f t b
sealed g f t nodes b e h = record {
  level = ap (λ x. x.level) e;
  cut = ap (λ x. x.cut) e;
  wave = ap (λ x. x.wave) e;
  source = ap (λ x. x.source) e;
  low = ap (λ x. x.low) e;
  high = ap (λ x. x.high) e;
  target_is = ap (λ x. x.target) e;
  holds = h;
}

pub batches_more : (g : Net) (f : FreshState) (batches : List BatchState) (b : BatchState) → ((t : ℕ) (d : BatchState) → t < length batches → IsBatchOf g f t (get_or batches t d))
    → IsBatchOf g f (length batches) b → (t : ℕ) (d : BatchState) → t < length (batches ++ b ∷ []) → IsBatchOf g f t (get_or (batches ++ b ∷ []) t d)
batches_more g f batches b old new t d l =
    ⊎_elim
    (λ h. subst (λ x. IsBatchOf g f t x) (sym (get_or_append_left batches (b ∷ []) d t h)) (old t d h))
    (λ h. let at : length batches ≡ t = omega (arith, l, length_push batches b) in
    subst (λ x. IsBatchOf g f t x) (sym (get_or_push batches b d t at)) (subst (λ k. IsBatchOf g f k b) at new))
    (cases_lt t (length batches))
