use Rattle.std.proofs.Common.{◌≡◌, ◌/◌, ◌%◌, ◌<◌, ◌≤◌, ◌^◌, ℕ, List, length, get_or, refl, sym, ap, ◌∙◌, subst, ltb, zero-add, arith, rules}
use Rattle.std.proofs.lemmas.List.Sorted.{IsPartitionPoint-from_clause}
use Rattle.morris_board.specs.Boards.{Shape}
use Rattle.morris_board.specs.Sets.{members, count_of}
use Rattle.morris_board.specs.Symmetries.{HasSymmetries}
use Rattle.morris_index.specs.Numbering.{rank_of}
use Rattle.morris_index.specs.Classes.{class_of, representative_of, symmetry_of}
use Rattle.morris_index.proofs.ClassLaws.{symmetry_within}
use Rattle.morris_index.proofs.IndexLaws.{within_24}
use Rattle.morris_lookup.specs.Prepared.{class_word_of, AreClassWords}
use Rattle.morris_lookup.proofs.LeadLaws.{lead_parts, rank_is}
use Rattle.morris_lookup.proofs.ListLaws.{partitioned, class_is}
use Rattle.morris_lookup.proofs.classes.class_by.Goals as goal

-- what the word of a set says
module _ (board : Shape) (few : board.points ≤ 24) (y : HasSymmetries board) (most : board.symmetries ≤ 16) (class_words : List ℕ) (set place : ℕ)
    (class_word : AreClassWords board (count_of set) class_words) (small : set < 2 ^ board.points) (ranked : place ≡ rank_of (members set)) (inside : place < length class_words) where
  parts : (get_or class_words place 0 / 16 ≡ class_of board set) × (get_or class_words place 0 % 16 ≡ symmetry_of board set)
  parts =
      let is : get_or class_words place 0 ≡ class_word_of board set =
      ap (λ p. get_or class_words p 0) (ranked ∙ sym (zero-add (rank_of (members set)))) ∙ (class_word (omega (arith, inside))).1 set small refl in
      let two = lead_parts board set (omega (arith, symmetry_within board few y set small, most)) in
      (ap (λ w. w / 16) is ∙ two.0, ap (λ w. w % 16) is ∙ two.1)

pub rank-requires-clause-board : goal.rank-requires-clause-board
rank-requires-clause-board g c = within_24 c.args.set g.B.Geometry.POINTS c.requires.within g.met.B.Geometry.few

pub returns-clause-class : goal.returns-clause-class
returns-clause-class g c = λ listed class_word.
    let few : g.B.Geometry.shape.points ≤ 24 = omega (arith, g.met.B.Geometry.few, g.met.B.Geometry.point_count) in
    let most : g.B.Geometry.shape.symmetries ≤ 16 = omega (arith, g.met.B.Geometry.few_symmetries, g.met.B.Geometry.symmetry_count) in
    let small : c.args.set < 2 ^ g.B.Geometry.shape.points = subst (λ n. c.args.set < 2 ^ n) (sym g.met.B.Geometry.point_count) c.requires.within in
    c.in-Some.ensures.class
    ∙ (parts g.B.Geometry.shape few g.met.B.Geometry.has_symmetries most c.args.class_words.now c.args.set c.rank.result class_word small (c.rank.ensures.value ∙ sym (rank_is c.args.set)) c.in-Some.ensures.inside).0

pub returns-clause-symmetry : goal.returns-clause-symmetry
returns-clause-symmetry g c = λ class_word.
    let few : g.B.Geometry.shape.points ≤ 24 = omega (arith, g.met.B.Geometry.few, g.met.B.Geometry.point_count) in
    let most : g.B.Geometry.shape.symmetries ≤ 16 = omega (arith, g.met.B.Geometry.few_symmetries, g.met.B.Geometry.symmetry_count) in
    let small : c.args.set < 2 ^ g.B.Geometry.shape.points = subst (λ n. c.args.set < 2 ^ n) (sym g.met.B.Geometry.point_count) c.requires.within in
    c.in-Some.ensures.symmetry
    ∙ (parts g.B.Geometry.shape few g.met.B.Geometry.has_symmetries most c.args.class_words.now c.args.set c.rank.result class_word small (c.rank.ensures.value ∙ sym (rank_is c.args.set)) c.in-Some.ensures.inside).1

pub returns-2-clause-class : goal.returns-2-clause-class
returns-2-clause-class g c = λ listed class_word.
    let board = g.B.Geometry.shape in
    let few : board.points ≤ 24 = omega (arith, g.met.B.Geometry.few, g.met.B.Geometry.point_count) in
    let small : c.args.set < 2 ^ board.points = subst (λ n. c.args.set < 2 ^ n) (sym g.met.B.Geometry.point_count) c.requires.within in
    let mask : c.mask-mask.result ≡ representative_of board c.args.set = c.mask-mask.ensures ∙ c.least_image-least.ensures.image in
    let point = IsPartitionPoint-from_clause (λ k. ltb k c.mask-mask.result) c.args.representatives.now c.partition_point-class.result c.partition_point-class.ensures.partitioned
    (partitioned board few g.met.B.Geometry.has_symmetries c.args.set small c.args.representatives.now listed c.mask-mask.result mask) (λ a r q k. search rules) in
    class_is board few g.met.B.Geometry.has_symmetries c.args.set small c.args.representatives.now listed c.mask-mask.result mask c.partition_point-class.result c.partition_point-class.ensures.bound point
