-- How the entries of a file are numbered, by lists that may be those of representatives.
use Rattle.std.specs.Prelude.{◌≡◌, ℕ, ◌<◌, ◌^◌, List, [], length}
use Rattle.morris_board.specs.Boards.{Shape}
use Rattle.morris_index.specs.Pairs.{Counts}
use Rattle.morris_pairs.specs.declared.layout.Layout.{Layout}
use Rattle.morris_pairs.specs.declared.layout.Layout.TheVariants as layout
use Rattle.morris_lookup.specs.Representatives.{representatives_of}
use Rattle.morris_lookup.specs.Prepared.{AreClassWords}
use Rattle.morris_lookup.specs.declared.numbering.Numbering.{Numbering}

-- The lists and the words are those for a pair in a layout: in layout Classes the lists have the
-- representatives of the sets of its greater and of its lesser number of points, and the words are
-- the class words of these sets; in layout Full the lists have nothing.
abbrev pub AreListsFor : Shape → Layout → Counts → List ℕ → List ℕ → List ℕ → List ℕ → Type 0
AreListsFor board layout.Full c greater lesser greater_class_words lesser_class_words = (greater ≡ []) × (lesser ≡ [])
AreListsFor board layout.Classes c greater lesser greater_class_words lesser_class_words =
    (greater ≡ representatives_of board c.greater) × (lesser ≡ representatives_of board c.lesser)
    × AreClassWords board c.greater greater_class_words × AreClassWords board c.lesser lesser_class_words

abbrev pub FitsNumbering : {B : Type 0} → Shape → Numbering B → Type 0
FitsNumbering board of = AreListsFor board of.layout of.pair of.greater.now of.lesser.now of.greater_class_words.now of.lesser_class_words.now

-- the lists have fewer numbers than fill 32 bits
abbrev pub Fits : {B : Type 0} → Numbering B → Type 0
Fits of = (length of.greater.now < 2 ^ 32) × (length of.lesser.now < 2 ^ 32)
