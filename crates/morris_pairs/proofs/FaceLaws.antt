-- Where the entries of all members of groups agree, all entries do.
use Rattle.std.proofs.Common.{◌≡◌, ℕ, ◌<◌, ◌≤◌, List, length, slice_index, slice_index_or, refl, sym, ap, subst, ◌∙◌, arith}
use Rattle.std.specs.List.{All, Contains}
use Rattle.std.proofs.lemmas.Bool.{eqb-true}
use Rattle.std.proofs.lemmas.List.{get_or-map, length-map}
use Rattle.std.proofs.lemmas.List.Elements.{All-contains, All-contains_itself, All-weaker}
use Rattle.morris_board.specs.Boards.{Shape}
use Rattle.morris_board.specs.Symmetries.{HasSymmetries}
use Rattle.morris_index.specs.Classes.{representative_of}
use Rattle.morris_index.specs.ClassPairs.{class_index_of, class_size_of}
use Rattle.morris_index.specs.ByOpponent.{by_opponent, AreByOpponent}
use Rattle.morris_index.specs.Moves.{InPair, in_pair}
use Rattle.morris_index.specs.Pairs.{IsPair}
use Rattle.morris_index.proofs.ClassPairLaws.{index-lt}
use Rattle.morris_index.proofs.FacingLaws.{IsCovered, covered}
use Rattle.morris_pairs.specs.Agreement.{Agrees, code_from, result_codes}
use Rattle.morris_pairs.specs.OpponentGroups.{code_stated, codes_stated, EntryAgrees, GroupAgrees}
use Rattle.morris_pairs.specs.Tables.{Table}
use Rattle.morris_pairs.specs.declared.layout.Layout.TheVariants.{Classes}

-- the codes that the table states for some positions, one for each
pub length-codes : (board : Shape) (t : Table) (group : List InPair) → length (codes_stated board t group) ≡ length group
unfolding codes_stated
length-codes board t group = length-map group (code_stated board t)

pub codes-at : (board : Shape) (t : Table) (group : List InPair) (i : ℕ) (q : InPair) → i < length group → q ≡ slice_index_or group i q
    → slice_index_or (codes_stated board t group) i 0 ≡ code_stated board t q
unfolding codes_stated
codes-at board t group i q inside is = get_or-map (code_stated board t) group i q 0 inside ∙ ap (code_stated board t) (sym is)

-- where all listed positions agree
pub listed-agree : (board : Shape) (n : ℕ) → board.points ≡ n → (t : Table) (first end : ℕ) (group : List InPair) → AreByOpponent board n t.pair first end group
    → All (EntryAgrees board t) group → (k : ℕ) → first ≤ k → k < end → GroupAgrees board t k
listed-agree board n points t first end group listed agree k from to p h of own at =
    let same : class_index_of board n t.pair p ≡ k = ap (λ m. class_index_of board m t.pair p) (sym points) ∙ at in
    All-weaker (Contains (by_opponent board t.pair p)) (EntryAgrees board t)
    (λ q m. All-contains (EntryAgrees board t) group q agree (listed.each p h of own (omega (arith, same)) (omega (arith, same)) q m))
    (by_opponent board t.pair p) (All-contains_itself (by_opponent board t.pair p))

-- each position with an entry of its own is a member that some entry gives
pub group-all : (board : Shape) → board.points ≤ 24 → HasSymmetries board → (t : Table) → t.layout ≡ Classes → IsPair board.points t.pair
    → ((k : ℕ) → k < class_size_of board board.points t.pair → GroupAgrees board t k) → (i : ℕ) → Agrees board t i
group-all board few y t classes pair agree i s h of own at =
    let least : representative_of board s.own ≡ s.own = eqb-true (representative_of board s.own) s.own (rw classes at own) in
    let cover : IsCovered board board.points few refl y t.pair pair s = covered board board.points few refl y t.pair pair s h of least in
    let all : All (EntryAgrees board t) (by_opponent board t.pair cover.facing_it) =
    agree (class_index_of board board.points t.pair cover.facing_it)
    (index-lt board board.points few refl y t.pair cover.facing_it cover.lawful cover.counts) cover.facing_it cover.lawful cover.counts cover.own refl in
    let here : EntryAgrees board t (in_pair t.pair s) = All-contains (EntryAgrees board t) (by_opponent board t.pair cover.facing_it) (in_pair t.pair s) all cover.listed in
    subst (λ k. slice_index t.codes k ≡ code_from (result_codes board t s)) at (here s h of own refl)
