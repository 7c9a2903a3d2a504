-- Laws of prepared words: where the sections stand in them.
use Rattle.std.proofs.Common.{◌≡◌, ℕ, zero, suc, ◌+◌, ◌-◌, ◌^◌, ◌<◌, ◌≤◌, false, ltb, List, length, get_or, drop, set, get_or-set_other, get_or-set_same, length-set, refl, sym, ap, ◌∙◌, inl, inr, subst, zero-add, arith}
use Rattle.std.proofs.lemmas.Bool.{cases_eq, lt-ltb, ltb-true, false_from_ne_true}
use Rattle.std.proofs.lemmas.List.{ext_get_or, get_or-take, get_or-drop, length-take-le, length-drop}
use Rattle.morris_board.specs.Boards.{Shape}
use Rattle.morris_board.specs.Sets.{members, count_of}
use Rattle.morris_index.specs.Binomials.{choose}
use Rattle.morris_index.specs.Numbering.{rank_of}
use Rattle.morris_lookup.specs.Representatives.{representatives_of}
use Rattle.morris_lookup.specs.Prepared.{section_at, section_size, start_of, first_word, class_word_of, IsPrepared, IsPreparedTo, HaveClassWords, AreClassWords, StayBefore}
use Rattle.morris_lookup.proofs.LeadLaws.{rank_inside}

-- ---- the places of the sections

module _ (board : Shape) where
  pub start-suc : (k : ℕ) → start_of board (suc k) ≡ start_of board k + section_size board k
  unfolding start_of
  start-suc k = refl

  pub start-zero : start_of board 0 ≡ 13
  unfolding start_of
  start-zero = refl

  pub size-listed : (k : ℕ) → k < 7 → section_size board k ≡ length (representatives_of board (3 + k))
  unfolding section_size
  size-listed k low = rw (lt-ltb k 7 low) refl

  pub size-canonical_form : (k : ℕ) → section_size board (7 + k) ≡ choose board.points (3 + k)
  unfolding section_size
  size-canonical_form k = rw (not_below k) (let e : 7 + k - 4 ≡ 3 + k = omega arith in ap (choose board.points) e)
    where
      not_below : (k : ℕ) → ltb (7 + k) 7 ≡ false
      not_below k = false_from_ne_true _ (λ h. absurd (omega (arith, ltb-true (7 + k) 7 h)))

  pub start-le : (k more : ℕ) → start_of board k ≤ start_of board (k + more)
  start-le k zero = let e : k + 0 ≡ k = omega arith in omega (arith, ap (start_of board) e)
  start-le k (suc more) =
      let e : k + suc more ≡ suc (k + more) = omega arith in omega (arith, start-le k more, ap (start_of board) e, start-suc (k + more))

  pub start-up : (j k : ℕ) → j ≤ k → start_of board j ≤ start_of board k
  start-up j k le = let e : j + (k - j) ≡ k = omega arith in omega (arith, start-le j (k - j), ap (start_of board) e)

  pub start-least : (k : ℕ) → 13 ≤ start_of board k
  start-least k = omega (arith, start-up 0 k (omega arith), start-zero)

  -- a section ends before any later one
  pub start-next : (j k : ℕ) → j < k → start_of board j + section_size board j ≤ start_of board k
  start-next j k low = omega (arith, start-up (suc j) k (omega arith), start-suc j)

  pub start-listed : (j k : ℕ) → j < k → j < 7 → start_of board j + length (representatives_of board (3 + j)) ≤ start_of board k
  start-listed j k low listed = omega (arith, start-next j k low, size-listed j listed)

  pub start-canonical_form : (j k : ℕ) → 7 + j < k → start_of board (7 + j) + choose board.points (3 + j) ≤ start_of board k
  start-canonical_form j k low = omega (arith, start-next (7 + j) k low, size-canonical_form j)

  pub prepared-none : (words : List ℕ) → 13 ≤ length words → get_or words 0 0 ≡ first_word board → get_or words 1 0 ≡ 13 → IsPreparedTo board 0 13 words
  prepared-none words long first one = record {
    ends = sym start-zero;
    first = first;
    starts = λ j h. let e : j ≡ 0 = omega arith in rw e (one ∙ sym start-zero);
    within = long;
    listed = λ j i h. absurd (omega arith);
    canonical_form = λ j set h. absurd (omega arith);
  }

  -- ---- one section more

  -- where it was filled, and where it ends was noted
  module _ (few : board.points ≤ 24) (k end next : ℕ) (words filled : List ℕ) (low : k < 11) (here : IsPreparedTo board k end words)
      (len : length filled ≡ length words) (is : next ≡ end + section_size board k) (within : next ≤ length words)
      (before : StayBefore end filled words) where
    abbrev noted : List ℕ
    noted = set filled (k + 2) next

    in_heading : 13 ≤ end
    in_heading = omega (arith, here.ends, start-least k)

    -- all but that place is as it was filled
    old_at : (i : ℕ) → 13 ≤ i → get_or noted i 0 ≡ get_or filled i 0
    old_at i above = get_or-set_other filled (k + 2) i next 0 (omega (arith, above))

    first_there : get_or noted 0 0 ≡ first_word board
    first_there = get_or-set_other filled (k + 2) 0 next 0 (omega arith) ∙ before 0 (omega (arith, in_heading)) ∙ here.first

    starts_there : (j : ℕ) → j ≤ suc k → get_or noted (1 + j) 0 ≡ start_of board j
    starts_there j h = elim (cases_eq j (suc k)) [
      | inl e ↦
          let at : 1 + j ≡ k + 2 = omega (arith, e) in
          ap (λ m. get_or noted m 0) at
          ∙ get_or-set_same filled (k + 2) next 0 (omega (arith, len, within, is, in_heading))
          ∙ omega (arith, is, here.ends, start-suc k, ap (start_of board) e)
      | inr d ↦
          get_or-set_other filled (k + 2) (1 + j) next 0 (omega arith)
          ∙ before (1 + j) (omega (arith, in_heading))
          ∙ here.starts j (omega arith)
    ]

    listed_there_before : (j i : ℕ) → j < k → j < 7 → i < length (representatives_of board (3 + j))
        → get_or noted (start_of board j + i) 0 ≡ get_or (representatives_of board (3 + j)) i 0
    listed_there_before j i h listed inside =
        old_at (start_of board j + i) (omega (arith, start-least j))
        ∙ before (start_of board j + i) (omega (arith, start-listed j k h listed, here.ends, inside))
        ∙ here.listed j i h listed inside

    canonical_there_before : (j x : ℕ) → 7 + j < k → x < 2 ^ board.points → count_of x ≡ 3 + j
        → get_or noted (start_of board (7 + j) + rank_of (members x)) 0 ≡ class_word_of board x
    canonical_there_before j x h small counted =
        let inside = rank_inside board.points (3 + j) x few small counted in
        old_at (start_of board (7 + j) + rank_of (members x)) (omega (arith, start-least (7 + j)))
        ∙ before (start_of board (7 + j) + rank_of (members x)) (omega (arith, start-canonical_form j k h, here.ends, inside))
        ∙ here.canonical_form j x h small counted

    pub listed-more : k < 7 → ((i : ℕ) → i < length (representatives_of board (3 + k)) → get_or filled (end + i) 0 ≡ get_or (representatives_of board (3 + k)) i 0)
        → IsPreparedTo board (k + 1) next noted
    listed-more small there =
        let e : suc k ≡ k + 1 = omega arith in
        subst (λ m. IsPreparedTo board m next noted) e (record {
          ends = omega (arith, is, here.ends, start-suc k);
          first = first_there;
          starts = starts_there;
          within = omega (arith, within, len, length-set filled (k + 2) next);
          listed = λ j i h listed inside. elim (cases_eq j k) [
            | inl e ↦
                old_at (start_of board j + i) (omega (arith, start-least j))
                ∙ rw e (rw (← here.ends) (there i (subst (λ m. i < length (representatives_of board (3 + m))) e inside)))
            | inr d ↦ listed_there_before j i (omega arith) listed inside
          ];
          canonical_form = λ j x h. absurd (omega arith);
        })

    pub canonical_form-more : (m : ℕ) → k ≡ 7 + m → HaveClassWords board (3 + m) end filled → IsPreparedTo board (k + 1) next noted
    canonical_form-more m at there =
        let e : suc k ≡ k + 1 = omega arith in
        subst (λ m. IsPreparedTo board m next noted) e (record {
          ends = omega (arith, is, here.ends, start-suc k);
          first = first_there;
          starts = starts_there;
          within = omega (arith, within, len, length-set filled (k + 2) next);
          listed = λ j i h listed inside. listed_there_before j i (omega (arith, at)) listed inside;
          canonical_form = λ j x h small counted. elim (cases_eq j m) [
            | inl e ↦
                let start : start_of board (7 + j) ≡ end = ap (start_of board) (let f : 7 + j ≡ k = omega (arith, at, e) in f) ∙ sym here.ends in
                old_at (start_of board (7 + j) + rank_of (members x)) (omega (arith, start-least (7 + j)))
                ∙ ap (λ s. get_or filled (s + rank_of (members x)) 0) start
                ∙ there x small (omega (arith, counted, e))
            | inr d ↦ canonical_there_before j x (omega (arith, at, h, d)) small counted
          ];
        })

-- ---- what stands in the sections of prepared words

module _ (board : Shape) (words : List ℕ) (here : IsPrepared board words) (k : ℕ) (low : k < 11) where
  starts_at : get_or words (k + 1) 0 ≡ start_of board k
  starts_at = let e : 1 + k ≡ k + 1 = omega arith in ap (λ i. get_or words i 0) (sym e) ∙ here.starts k (omega arith)

  ends_at : get_or words (k + 2) 0 ≡ start_of board k + section_size board k
  ends_at = let e : 1 + suc k ≡ k + 2 = omega arith in ap (λ i. get_or words i 0) (sym e) ∙ here.starts (suc k) (omega arith) ∙ start-suc board k

  -- it lies between the places that the words before it say
  pub section_within : (get_or words (k + 1) 0 ≤ get_or words (k + 2) 0) × (get_or words (k + 2) 0 ≤ length words)
  section_within = (omega (arith, starts_at, ends_at), omega (arith, ends_at, start-suc board k, start-up board (suc k) 11 (omega arith), here.whole))

  length-section : length (section_at words k) ≡ section_size board k
  length-section =
      length-take-le (get_or words (k + 2) 0 - get_or words (k + 1) 0) (drop (get_or words (k + 1) 0) words)
      (omega (arith, length-drop (get_or words (k + 1) 0) words, section_within.0, section_within.1))
      ∙ omega (arith, starts_at, ends_at)

  get_or-section : (i : ℕ) → i < section_size board k → get_or (section_at words k) i 0 ≡ get_or words (start_of board k + i) 0
  get_or-section i h =
      get_or-take (get_or words (k + 2) 0 - get_or words (k + 1) 0) (drop (get_or words (k + 1) 0) words) i 0 (omega (arith, h, starts_at, ends_at))
      ∙ get_or-drop (get_or words (k + 1) 0) words i 0
      ∙ ap (λ s. get_or words (s + i) 0) starts_at

  pub section-listed : k < 7 → section_at words k ≡ representatives_of board (3 + k)
  section-listed listed =
      let size = size-listed board k listed in
      ext_get_or 0 (section_at words k) (representatives_of board (3 + k)) (length-section ∙ size)
      (λ i h. get_or-section i (omega (arith, h, length-section)) ∙ here.listed k i listed (omega (arith, h, length-section, size)))

  pub section-class_words : board.points ≤ 24 → (m : ℕ) → k ≡ 7 + m → AreClassWords board (3 + m) (section_at words k)
  section-class_words few m at = λ some.
      let size : section_size board k ≡ choose board.points (3 + m) = ap (section_size board) at ∙ size-canonical_form board m in (
        omega (arith, length-section, size),
        (λ set small counted.
            ap (λ i. get_or (section_at words k) i 0) (zero-add (rank_of (members set)))
            ∙ get_or-section (rank_of (members set)) (omega (arith, rank_inside board.points (3 + m) set few small counted, size))
            ∙ ap (λ j. get_or words (start_of board j + rank_of (members set)) 0) at
            ∙ here.canonical_form m set (omega (arith, at)) small counted),
      )
