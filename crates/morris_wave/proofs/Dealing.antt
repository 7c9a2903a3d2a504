-- Nodes dealt into one list for each block.
use Rattle.std.proofs.Common.{◌≡◌, ℕ, zero, suc, ◌+◌, ◌<◌, cond, eqb, List, [], ◌∷◌, ◌++◌, length, get_or, set, take, refl, sym, ap, ◌∙◌, subst, ⊎_elim, arith, get_or-set_same, get_or-set_other, length-set}
use Rattle.std.specs.List.{All}
use Rattle.std.proofs.lemmas.Bool.{cases_eq, cond-false, ne_eqb}
use Rattle.std.proofs.lemmas.List.Sums.{sum_by_push}
use Rattle.std.proofs.lemmas.List.Elements.{All-push, All-nil}
use Rattle.morris_wave.specs.Nets.{times}
use Rattle.morris_wave.specs.Blocks.{Parts, IsIn, block_of}
use Rattle.std.proofs.lemmas.List.{map-append, map-set, get_or-map}
use Rattle.morris_wave.specs.Lists.{contents, list_at}
use Rattle.morris_wave.specs.Scattering.{AreSorted, Deals}
use Rattle.morris_wave.proofs.Marking.{times_more}

-- a number more at the end of a list
pub times_push : (i node : ℕ) (xs : List ℕ) → times i (xs ++ node ∷ []) ≡ times i xs + cond {A = ℕ} (eqb node i) 1 0
times_push i node xs = sum_by_push (λ x. cond {A = ℕ} (eqb x i) 1 0) xs node

-- one node more is put at the end of its block's list
module _ (c : Parts) (nodes : List ℕ) (k node : ℕ) (inside : k < length nodes) (is : node ≡ get_or nodes k 0) (old mid : List (List ℕ))
    (within : block_of c node < length mid) (holds : IsIn c (block_of c node) node) where
  pub deal_sorted : AreSorted c mid → AreSorted c (set mid (block_of c node) (list_at mid (block_of c node) ++ node ∷ []))
  deal_sorted sorted t l =
      ⊎_elim
      (λ e. subst (λ x. All (IsIn c x) (list_at (set mid (block_of c node) (list_at mid (block_of c node) ++ node ∷ [])) x)) e
      (subst (λ xs. All (IsIn c (block_of c node)) xs) (sym (get_or-set_same mid (block_of c node) (list_at mid (block_of c node) ++ node ∷ []) [] within))
      (All-push (IsIn c (block_of c node)) (list_at mid (block_of c node)) node (sorted (block_of c node) within) holds)))
      (λ e. subst (λ xs. All (IsIn c t) xs) (sym (get_or-set_other mid (block_of c node) t (list_at mid (block_of c node) ++ node ∷ []) [] (λ z. e (sym z))))
      (sorted t (omega (arith, length-set mid (block_of c node) (list_at mid (block_of c node) ++ node ∷ [])))))
      (cases_eq (block_of c node) t)

  pub deal_more : Deals c old mid (take k nodes) → Deals c old (set mid (block_of c node) (list_at mid (block_of c node) ++ node ∷ [])) (take (k + 1) nodes)
  deal_more deals i l =
      ⊎_elim
      (λ e. let here : list_at (set mid (block_of c node) (list_at mid (block_of c node) ++ node ∷ [])) (block_of c i) ≡ list_at mid (block_of c i) ++ node ∷ [] =
      subst (λ t. list_at (set mid (block_of c node) (list_at mid (block_of c node) ++ node ∷ [])) t ≡ list_at mid t ++ node ∷ []) e
      (get_or-set_same mid (block_of c node) (list_at mid (block_of c node) ++ node ∷ []) [] within) in
      omega (arith, ap (times i) here, times_push i node (list_at mid (block_of c i)), times_more nodes k node inside is i, deals i l))
      (λ e. let other : list_at (set mid (block_of c node) (list_at mid (block_of c node) ++ node ∷ [])) (block_of c i) ≡ list_at mid (block_of c i) =
      get_or-set_other mid (block_of c node) (block_of c i) (list_at mid (block_of c node) ++ node ∷ []) [] (λ z. e (sym z)) in
      let none : cond {A = ℕ} (eqb node i) 1 0 ≡ 0 = cond-false {A = ℕ} (eqb node i) 1 0 (ne_eqb node i (λ z. e (ap (block_of c) z))) in
      omega (arith, ap (times i) other, none, times_more nodes k node inside is i, deals i l))
      (cases_eq (block_of c node) (block_of c i))

empty_push : (lists : List (List ℕ)) → ((t : ℕ) → list_at lists t ≡ []) → (t : ℕ) → list_at (lists ++ [] ∷ []) t ≡ []
empty_push [] h zero = refl
empty_push [] h (suc t) = refl
empty_push (xs ∷ lists) h zero = h 0
empty_push (xs ∷ lists) h (suc t) = empty_push lists (λ k. h (suc k)) t

pub empty_more : {A : Type 0} (items : A → List ℕ) (lists new : List A) (list : A) → new ≡ lists ++ list ∷ [] → items list ≡ []
    → ((t : ℕ) → list_at (contents items lists) t ≡ []) → (t : ℕ) → list_at (contents items new) t ≡ []
empty_more items lists new list pushed none h t =
    ap (λ ls. list_at (contents items ls) t) pushed
    ∙ (ap (λ ls. list_at ls t) (map-append items lists (list ∷ []) ∙ ap (λ x. contents items lists ++ x ∷ []) none)
    ∙ empty_push (contents items lists) h t)

pub none_sorted : (c : Parts) (lists : List (List ℕ)) → ((t : ℕ) → list_at lists t ≡ []) → AreSorted c lists
none_sorted c lists h t l = subst (λ xs. All (IsIn c t) xs) (sym (h t)) (All-nil (IsIn c t))

pub put_is : {A : Type 0} (items : A → List ℕ) (lists : List A) (target node : ℕ) (list new : A) → target < length lists → list ≡ get_or lists target list → items new ≡ items list ++ node ∷ []
    → contents items (set lists target new) ≡ set (contents items lists) target (list_at (contents items lists) target ++ node ∷ [])
put_is items lists target node list new inside is more =
    map-set items lists target new
    ∙ ap (set (contents items lists) target) (more ∙ ap (λ xs. xs ++ node ∷ []) (ap items is ∙ sym (get_or-map items lists target list [] inside)))
