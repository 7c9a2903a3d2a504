-- The images of sets by tables: the tables of the boards have the images of the points, and the
-- image of a set is found from its points one by one.
use Rattle.std.proofs.Common.{◌≡◌, ℕ, ◌^◌, ◌<◌, Bool, true, false, ◌&&◌, ◌||◌, eqb, ltb, List, [], ◌∷◌, ◌++◌, length, map, get_or, refl, sym, ap, subst, ◌∙◌}
use Rattle.std.proofs.lemmas.Bool.{ltb-true, lt-ltb, and_parts, eqb-true}
use Rattle.std.proofs.lemmas.List.Folds.{list_all-append, list_any-append}
use Rattle.std.specs.List.{range_with_len, list_all}
use Rattle.morris_board.specs.Sets.{members, set_of, with_point}
use Rattle.morris_board.specs.Boards.{Shape, grid, nine, grid_image, nine_image}
use Rattle.morris_board.specs.Symmetries.{image_of}
use Rattle.morris_board.specs.SymmetryLaws.{below}
use Rattle.morris_board.proofs.PointsLaws.{has-with, same_points, all_members}
use Rattle.morris_board.proofs.SetLaws.{point_lt}
use Rattle.morris_board.proofs.ImageLaws.{has-set_of}
use Rattle.morris_board.specs.declared.grid.TheConstants as grid_table
use Rattle.morris_board.specs.declared.nine.TheConstants as nine_table

-- ---- point by point

-- one point more, at the end
pub set_of-more : (ps : List ℕ) (p : ℕ) → set_of (ps ++ p ∷ []) ≡ with_point (set_of ps) p
set_of-more ps p = same_points _ _ (λ q.
    has-set_of (ps ++ p ∷ []) q
    ∙ list_any-append (eqb q) ps (p ∷ [])
    ∙ rw (← has-set_of ps q, or_false (eqb q p)) (sym (has-with (set_of ps) p q)))
  where
    or_false : (b : Bool) → (b || false) ≡ b
    or_false true = refl
    or_false false = refl

-- a point at which the members of a set are cut
pub member_lt : (s n p : ℕ) (before after : List ℕ) → s < 2 ^ n → before ++ p ∷ after ≡ members s → p < n
member_lt s n p before after small cut =
    ltb-true _ _ (and_parts (ltb p n) (list_all (λ k. ltb k n) after) (and_parts (list_all (λ k. ltb k n) before) (list_all (λ k. ltb k n) (p ∷ after))
    (sym (list_all-append (λ k. ltb k n) before (p ∷ after))
    ∙ ap (list_all (λ k. ltb k n)) cut
    ∙ all_members s (λ k. ltb k n) (λ k h. lt-ltb k n (point_lt s n k small h)))).1).0

same_on : (f g : ℕ → ℕ) (n : ℕ) → ((p : ℕ) → p < n → f p ≡ g p) → (ks : List ℕ) → list_all (λ k. ltb k n) ks ≡ true → map f ks ≡ map g ks
same_on f g n each [] all = refl
same_on f g n each (k ∷ ks) all =
    let parts = and_parts _ _ all in
    rw (each k (ltb-true _ _ parts.0), same_on f g n each ks parts.1) refl

-- two maps that agree at each point have the same images
pub image_of-same : (f g : ℕ → ℕ) (n s : ℕ) → s < 2 ^ n → ((p : ℕ) → p < n → f p ≡ g p) → image_of f s ≡ image_of g s
unfolding image_of
image_of-same f g n s small each =
    ap set_of (same_on f g n each (members s) (all_members s (λ k. ltb k n) (λ k h. lt-ltb k n (point_lt s n k small h))))

-- ---- the tables

-- whether a table has the image of each of n points under each symmetry, and each is a point
abbrev has_images : Shape → ℕ → ℕ → List (List ℕ) → Bool
has_images b count n table =
    list_all (λ s. eqb (length (get_or table s [])) n
    && list_all (λ p. eqb (get_or (get_or table s []) p 0) (b.image s p) && ltb (b.image s p) n) (range_with_len 0 n)) (range_with_len 0 count)

-- what a row of such a table is
pub record IsRow (b : Shape) (n s : ℕ) (row : List ℕ) : Type 0 where
  pub len : length row ≡ n
  pub at : (p : ℕ) → p < n → get_or row p 0 ≡ b.image s p
  pub within : (p : ℕ) → p < n → get_or row p 0 < n

row_of : (b : Shape) (count n : ℕ) (table : List (List ℕ)) → has_images b count n table ≡ true → (s : ℕ) → s < count → IsRow b n s (get_or table s [])
row_of b count n table all s low =
    let parts = and_parts _ _ (below _ count all s low) in
    let at = λ (p : ℕ) (here : p < n). and_parts _ _ (below _ n parts.1 p here) in
    record {
      len = eqb-true _ _ parts.0;
      at = λ p here. eqb-true _ _ (at p here).0;
      within = λ p here. subst (λ q. q < n) (sym (eqb-true _ _ (at p here).0)) (ltb-true _ _ (at p here).1);
    }

-- the image of a set by a row is its image under the symmetry
pub row_image : (b : Shape) (n s : ℕ) (row : List ℕ) → IsRow b n s row → (set : ℕ) → set < 2 ^ n → image_of (λ p. get_or row p 0) set ≡ image_of (b.image s) set
row_image b n s row r set small = image_of-same (λ p. get_or row p 0) (b.image s) n set small r.at

images-grid : has_images grid 8 9 grid_table.IMAGES ≡ true
unfolding grid grid_image
images-grid = refl

pub row-grid : (s : ℕ) → s < 8 → IsRow grid 9 s (get_or grid_table.IMAGES s [])
row-grid = row_of grid 8 9 grid_table.IMAGES images-grid

images-nine : has_images nine 16 24 nine_table.IMAGES ≡ true
unfolding nine nine_image
images-nine = refl

pub row-nine : (s : ℕ) → s < 16 → IsRow nine 24 s (get_or nine_table.IMAGES s [])
row-nine = row_of nine 16 24 nine_table.IMAGES images-nine
