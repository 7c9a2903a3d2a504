-- The positions that are found, entry by entry, and how many there are, code by code.
use Rattle.std.proofs.Common.{◌≡◌, ◌≢◌, ◌↔◌, ◌⊎◌, ℕ, ◌+◌, ◌-◌, ◌<◌, ◌≤◌, zero, suc, Bool, true, false, List, [], ◌∷◌, ◌++◌, length, take, drop, get_or, refl, sym, ap, append-nil, Option, Some, None, Result, Ok, Err, ◌∙◌, subst, inl, inr, arith}
use Rattle.std.specs.List.{AllPairs, Contains, flat_map, range_with_len, sum_by}
use Rattle.std.specs.Prelude.{IfSome, IsOk, if◌then◌else◌}
use Rattle.std.proofs.lemmas.Bool.{cases_Bool, cases_eq, cases_lt}
use Rattle.std.proofs.lemmas.Grind.{flat_map-append}
use Rattle.std.proofs.lemmas.List.{get_or_append_left, get_or_past, length-append, length-drop, length-take, take-append-drop, take_all}
use Rattle.std.proofs.lemmas.List.Elements.{Contains-append_cases, Contains-append_left, Contains-append_right, Contains-get_or, Contains-push, Contains-push_cases}
use Rattle.std.proofs.lemmas.List.FromFn.{sum_by-map-range_with_len_more}
use Rattle.std.proofs.lemmas.List.Sums.{sum-map}
use Rattle.morris_board.specs.Boards.{Shape}
use Rattle.morris_board.specs.declared.streams.Failed.{Failed}
use Rattle.morris_board.specs.Positions.{Sides, IsPosition, text_of}
use Rattle.morris_board.specs.Symmetries.{HasSymmetries}
use Rattle.morris_index.specs.ClassPairs.{class_index_of}
use Rattle.morris_index.specs.Pairs.{Counts, IsPair, is_of}
use Rattle.morris_index.specs.Orbits.{HasEntry}
use Rattle.morris_index.proofs.IndexLaws.{placed}
use Rattle.morris_pairs.specs.declared.layout.Layout.{Layout}
use Rattle.morris_pairs.specs.declared.layout.Layout.TheVariants.{Classes, Full}
use Rattle.morris_pairs.specs.Codes.{value_in}
use Rattle.morris_pairs.specs.Counting.{AreSoMany, AreTallies, AreTalliesOf, CodedEntries, IsBetween, IsOfEntry, is_shown, table_of}
use Rattle.morris_pairs.specs.Entries.{entry_count, entry_index, has_own_entry}
use Rattle.morris_pairs.specs.EntryLaws.{laid}
use Rattle.morris_pairs.specs.Tables.{Table}
use Rattle.morris_pairs.proofs.CountLaws.{many_join, many_none, many_same, pairs_append}
use Rattle.morris_queries.specs.declared.wanted.Kind.{Kind}
use Rattle.morris_probe.specs.Lines.{line}
use Rattle.morris_jobs.proofs.CountedLaws.{both_some, some_map}
use Rattle.morris_board.specs.declared.streams.printer.Printer.{Printer}
use Rattle.morris_board.specs.Printers.{GoesOut, Outlet, Takes, has_failed_of, held_of, outlet_of}
use Rattle.morris_board.proofs.PrinterLaws.{and_then_as, ends}
use Rattle.morris_queries.specs.Found.{AreFound, AreFoundTo, AreManyOfBoth, AreOf, AreOfBoth, IsStated, PutsKind, PutsKinds, found_text, has_shown, kind_sum}
use Rattle.morris_queries.specs.Wanted.{is_of_kind}

-- ---- the first of a list

front_has : {X : Type 0} (n : ℕ) (xs : List X) (x : X) → Contains (take n xs) x → Contains xs x
front_has n xs x c = subst (λ ys. Contains ys x) (take-append-drop n xs) (Contains-append_left (take n xs) (drop n xs) x c)

-- one of a list is among the first n, or there are n of these
front_or_full : {X : Type 0} (n : ℕ) (xs : List X) (x : X) → Contains xs x → Contains (take n xs) x ⊎ (length (take n xs) ≡ n)
front_or_full n xs x c =
    elim (Contains-append_cases (take n xs) (drop n xs) x (subst (λ ys. Contains ys x) (sym (take-append-drop n xs)) c)) [
      | inl here ↦ inl here
      | inr later ↦ inr (omega (arith, later.1, length-drop n xs, length-take n xs))
    ]

front_pairs : {X : Type 0} (R : X → X → Type 0) (n : ℕ) (xs : List X) → AllPairs R xs → AllPairs R (take n xs)
front_pairs R n xs h = λ i j d less within.
    let whole : AllPairs R (take n xs ++ drop n xs) = subst (AllPairs R) (sym (take-append-drop n xs)) h in
    let all : length (take n xs ++ drop n xs) ≡ length (take n xs) + length (drop n xs) = length-append (take n xs) (drop n xs) in
    let at_i : get_or (take n xs ++ drop n xs) i d ≡ get_or (take n xs) i d = get_or_append_left (take n xs) (drop n xs) d i (omega arith) in
    let at_j : get_or (take n xs ++ drop n xs) j d ≡ get_or (take n xs) j d = get_or_append_left (take n xs) (drop n xs) d j within in
    rw (at_i, at_j) at (whole i j d less (omega arith))

-- ---- one entry more

module _ (asked : Sides → Type 0) (entry : Sides → ℕ) (most : ℕ) where
  -- those that are asked for and have an entry below this one
  abbrev pub asked_below : ℕ → Sides → Type 0
  asked_below e s = asked s × (entry s < e)

  -- nothing is found below the first entry
  pub found_none : AreFound (asked_below 0) entry most []
  found_none = record {
    each = λ s c. absurd (omega (arith, c.1));
    in_order = λ i j d less within. absurd (omega arith);
    few = omega arith;
    whole = λ s a. absurd (omega (arith, a.1));
  }

  -- nor at an entry of which no position is asked for
  pub found_same : (e : ℕ) (ps : List Sides) → ((s : Sides) → asked s → entry s ≡ e → ⊥) → AreFound (asked_below e) entry most ps
      → AreFound (asked_below (e + 1)) entry most ps
  found_same e ps none h = record {
    each = λ s c. let a = h.each s c in (a.0, omega (arith, a.1));
    in_order = h.in_order;
    few = h.few;
    whole = λ s a. elim (cases_lt (entry s) e) [
      | inl before ↦ h.whole s (a.0, before)
      | inr here ↦ absurd (none s a.0 (omega (arith, a.1, here)))
    ];
  }

  -- the positions of the next entry, as many as there may be
  module _ (e : ℕ) (ps qs : List Sides) (h : AreFound (asked_below e) entry most ps) (exact : (s : Sides) → Contains qs s ↔ (asked s × (entry s ≡ e)))
      (once : AllPairs (λ s t. s ≢ t) qs) where
    abbrev more : List Sides
    more = take (most - length ps) qs

    of_more : (s : Sides) → Contains more s → asked s × (entry s ≡ e)
    of_more s c = (exact s).0 (front_has (most - length ps) qs s c)

    below_more : (s : Sides) → Contains (ps ++ more) s → entry s ≤ e
    below_more s c = elim (Contains-append_cases ps more s c) [
      | inl before ↦ omega (arith, (h.each s before).1)
      | inr here ↦ omega (arith, (of_more s here).1)
    ]

    pub found_more : AreFound (asked_below (e + 1)) entry most (ps ++ more)
    found_more = record {
      each = λ s c. elim (Contains-append_cases ps more s c) [
        | inl before ↦ let a = h.each s before in (a.0, omega (arith, a.1))
        | inr here ↦ let a = of_more s here in (a.0, omega (arith, a.1))
      ];
      in_order =
          pairs_append (λ (s t : Sides). (entry s ≤ entry t) × (s ≢ t)) ps more h.in_order
          (λ i j d less within.
          let i_in = Contains-get_or more i d (omega arith) in
          let j_in = Contains-get_or more j d within in
          (omega (arith, (of_more _ i_in).1, (of_more _ j_in).1), front_pairs (λ (s t : Sides). s ≢ t) (most - length ps) qs once i j d less within))
          (λ s t c d.
          let first = h.each s c in
          let second = of_more t d in
          (omega (arith, first.1, second.1), λ same. omega (arith, first.1, second.1, ap entry same)));
      few = omega (arith, length-append ps more, length-take (most - length ps) qs, h.few);
      whole = λ s a. elim (cases_lt (entry s) e) [
        | inl before ↦ elim (h.whole s (a.0, before)) [
          | inl there ↦ inl (Contains-append_left ps more s there)
          | inr full ↦
              let none : length more ≡ 0 = omega (arith, full.0, length-take (most - length ps) qs) in
              inr (
                omega (arith, length-append ps more, full.0, none),
                λ t c. elim (Contains-append_cases ps more t c) [ inl old ↦ full.1 t old | inr new ↦ absurd (omega (arith, new.1, none)) ],
              )
        ]
        | inr here ↦
            let at : entry s ≡ e = omega (arith, a.1, here) in
            elim (front_or_full (most - length ps) qs s ((exact s).1 (a.0, at))) [
              | inl there ↦ inl (Contains-append_right ps more s there)
              | inr full ↦ inr (omega (arith, length-append ps more, full, h.few), λ t c. omega (arith, below_more t c, at))
            ]
      ];
    }

  -- all of them, where no entry is left
  pub found_all : (e : ℕ) (ps : List Sides) → ((s : Sides) → asked s → entry s < e) → AreFound (asked_below e) entry most ps → AreFound asked entry most ps
  found_all e ps last h = record {
    each = λ s c. (h.each s c).0;
    in_order = h.in_order;
    few = h.few;
    whole = λ s a. h.whole s (a, last s a);
  }

  -- as many as there may be: those to come stand after them
  pub found_enough : (e : ℕ) (ps : List Sides) → length ps ≡ most → AreFound (asked_below e) entry most ps → AreFound asked entry most ps
  found_enough e ps full h = record {
    each = λ s c. (h.each s c).0;
    in_order = h.in_order;
    few = h.few;
    whole = λ s a. elim (cases_lt (entry s) e) [
      | inl before ↦ h.whole s (a, before)
      | inr after ↦ inr (full, λ t c. omega (arith, (h.each t c).1, after))
    ];
  }

-- the first of those that are found, where a write of the last ones fails
pub found_first : (asked : Sides → Type 0) (entry : Sides → ℕ) (most e : ℕ) (ps : List Sides)
    → AreFound (λ s. asked s × (entry s < e)) entry most ps → AreFound asked entry (length ps) ps
found_first asked entry most e ps h =
    found_enough asked entry (length ps) e ps refl (record {
      each = h.each;
      in_order = h.in_order;
      few = omega arith;
      whole = λ s a. elim (h.whole s a) [ inl there ↦ inl there | inr full ↦ inr (refl, full.1) ];
    })

-- ---- what an entry has

module _ (board : Shape) (t : Table) (all : Bool) (kind : Kind) (e : ℕ) where
  abbrev code_says : ℕ → Bool
  code_says entry = is_of_kind kind (value_in (get_or t.codes entry 0))

  -- where its code says what is asked for, its positions are asked for
  pub stated_of : code_says e ≡ true → (qs : List Sides) → ((s : Sides) → Contains qs s ↔ IsOfEntry board t.layout t.pair all e s)
      → (s : Sides) → Contains qs s ↔ (IsStated board t all kind s × (entry_index board board.points t.layout t.pair s ≡ e))
  stated_of is qs listed s = (
    (λ c.
        let here = (listed s).0 c in
        (record { lawful = here.lawful; of = here.of; shown = here.shown; asked = ap code_says here.entry_is ∙ is }, here.entry_is)),
    (λ a. (listed s).1 (record { lawful = a.0.lawful; of = a.0.of; shown = a.0.shown; entry_is = a.1 })),
  )

  -- where it doesn't, none is
  pub none_stated : code_says e ≡ false → (s : Sides) → IsStated board t all kind s → entry_index board board.points t.layout t.pair s ≡ e → ⊥
  none_stated none s a here =
      let bad : true ≡ false = sym a.asked ∙ (ap code_says here ∙ none) in
      cc

-- each position that is asked for has an entry
pub stated_inside : (board : Shape) (few : board.points ≤ 24) (y : HasSymmetries board) (t : Table) → IsPair board.points t.pair → (all : Bool) (kind : Kind) (s : Sides)
    → IsStated board t all kind s → entry_index board board.points t.layout t.pair s < entry_count board board.points t.layout t.pair
stated_inside board few y t pair all kind s a = (laid board few y t.layout t.pair pair).below s a.lawful a.of

-- the strings of some positions and of others
pub found_text-append : (board : Shape) (ps qs : List Sides) → found_text board (ps ++ qs) ≡ found_text board ps ++ found_text board qs
unfolding found_text
found_text-append board ps qs = flat_map-append (λ s. line (text_of board s)) ps qs

-- of some and one more
pub found_text-push : (board : Shape) (ps : List Sides) (p : Sides) → found_text board (ps ++ p ∷ []) ≡ found_text board ps ++ line (text_of board p)
unfolding found_text
found_text-push board ps p = found_text-append board ps (p ∷ []) ∙ ap (λ text. found_text board ps ++ text) (append-nil (line (text_of board p)))

-- the position with an entry of its own is the only one of that entry that is shown, where no other
-- is asked for or each has an entry of its own
module _ (board : Shape) (few : board.points ≤ 24) (y : HasSymmetries board) (l : Layout) (c : Counts) (pair : IsPair board.points c) (all : Bool)
    (how : (all ≡ false) ⊎ (l ≡ Full)) (p : Sides) (lawful : IsPosition board p) (of : is_of c p ≡ true) (own : has_own_entry board l p ≡ true) (e : ℕ)
    (at : entry_index board board.points l c p ≡ e) where
  shown_own : (every : Bool) → is_shown board l every p ≡ true
  shown_own true = refl
  shown_own false = own

  own_shown : (all ≡ false) ⊎ (l ≡ Full) → (s : Sides) → is_shown board l all s ≡ true → has_own_entry board l s ≡ true
  own_shown (inl none) s shown = rw none at shown
  own_shown (inr full) s shown = rw full refl

  pub own_listed : (s : Sides) → Contains (p ∷ []) s ↔ IsOfEntry board l c all e s
  own_listed s = (
    (λ m. elim (Contains-push_cases [] p s m) [
      | inl none ↦ absurd (omega (arith, none.1))
      | inr same ↦ subst (IsOfEntry board l c all e) same (record { lawful = lawful; of = of; shown = shown_own all; entry_is = at })
    ]),
    (λ a. subst (Contains (p ∷ []))
        ((laid board few y l c pair).alone p s (placed board board.points p refl lawful) (placed board board.points s refl a.lawful) of a.of own (own_shown how s a.shown)
        (at ∙ sym a.entry_is))
        (Contains-push [] p)),
  )

-- all positions of an entry's orbit, in a file by classes
pub shared_listed : (board : Shape) (n : ℕ) → board.points ≡ n → (l : Layout) (c : Counts) (all : Bool) → all ≡ true → l ≡ Classes → (e : ℕ) (ps : List Sides)
    → ((s : Sides) → Contains ps s ↔ HasEntry board n c e s) → (s : Sides) → Contains ps s ↔ IsOfEntry board l c all e s
shared_listed board n points l c all every classes e ps listed s = (
  (λ m.
      let here = (listed s).0 m in
      record {
        lawful = here.lawful;
        of = here.counts;
        shown = rw every refl;
        entry_is = subst (λ (k : Layout). entry_index board board.points k c s ≡ e) (sym classes)
            (subst (λ k. class_index_of board k c s ≡ e) (sym points) here.entry_is);
      }),
  (λ a. (listed s).1 (record {
    lawful = a.lawful;
    counts = a.of;
    entry_is = subst (λ k. class_index_of board k c s ≡ e) points
        (subst (λ (k : Layout). entry_index board board.points k c s ≡ e) classes a.entry_is);
  })),
)

-- the string of one position
pub own_text : (board : Shape) (most : ℕ) (p : Sides) → 0 < most → found_text board (take most (p ∷ [])) ≡ line (text_of board p)
unfolding found_text
own_text board most p some =
    ap (λ ps. flat_map (λ s. line (text_of board s)) ps) (take_all most (p ∷ []) (omega (arith, some))) ∙ append-nil (line (text_of board p))

-- ---- how many there are, code by code

-- a sum over one number more
pub sum_next : (f : ℕ → ℕ) (m : ℕ) → sum_by f (range_with_len 0 (m + 1)) ≡ sum_by f (range_with_len 0 m) + f m
sum_next f m =
    sym (sum-map f (range_with_len 0 (m + 1)))
    ∙ (sum_by-map-range_with_len_more (λ x. x) f 0 m m (omega arith) ∙ ap (λ s. s + f m) (sum-map f (range_with_len 0 m)))

module _ (board : Shape) (t : Table) (all : Bool) (kind : Kind) (tallies : List ℕ)
    (counted : AreTalliesOf board t all 0 (entry_count board board.points t.layout t.pair) tallies)
    (inside : (s : Sides) → IsStated board t all kind s → entry_index board board.points t.layout t.pair s < entry_count board board.points t.layout t.pair) where
  abbrev code_of : Sides → ℕ
  code_of s = get_or t.codes (entry_index board board.points t.layout t.pair s) 0

  abbrev share_of : ℕ → ℕ
  share_of code = if is_of_kind kind (value_in code) then get_or tallies code 0 else 0

  -- those whose code is below this one
  abbrev stated_below : ℕ → Sides → Type 0
  stated_below m s = IsStated board t all kind s × (code_of s < m)

  abbrev sum_to : ℕ → ℕ
  sum_to m = sum_by share_of (range_with_len 0 m)

  stated_here : (m : ℕ) → is_of_kind kind (value_in m) ≡ true → (s : Sides)
      → IsBetween board t all 0 (entry_count board board.points t.layout t.pair) s m → IsStated board t all kind s × (code_of s ≡ m)
  stated_here m is s b = (
    record {
      lawful = b.stated.lawful;
      of = b.stated.of;
      shown = b.shown;
      asked = subst (λ code. is_of_kind kind (value_in code) ≡ true) (sym b.stated.stated) is;
    },
    b.stated.stated,
  )

  from_here : (m : ℕ) (s : Sides) → IsStated board t all kind s → code_of s ≡ m
      → IsBetween board t all 0 (entry_count board board.points t.layout t.pair) s m
  from_here m s a at = record {
    stated = record { lawful = a.lawful; of = a.of; stated = at };
    shown = a.shown;
    from = omega arith;
    below = inside s a;
  }

  many_below : (m : ℕ) → AreSoMany (stated_below m) (sum_to m)
  many_below zero = many_none (stated_below 0) (λ s a. omega (arith, a.1))
  many_below (suc m) =
      let before : AreSoMany (stated_below m) (sum_to m) = many_below m in
      let next : suc m ≡ m + 1 = omega arith in
      subst (λ k. AreSoMany (stated_below k) (sum_to k)) (sym next)
      (subst (AreSoMany (stated_below (m + 1))) (sym (sum_next share_of m)) (elim (cases_Bool (is_of_kind kind (value_in m))) [
        | inl is ↦
            let here : share_of m ≡ get_or tallies m 0 = rw is refl in
            subst (λ n. AreSoMany (stated_below (m + 1)) (sum_to m + n)) (sym here)
            (many_join (stated_below m) (λ s. IsBetween board t all 0 (entry_count board board.points t.layout t.pair) s m) (stated_below (m + 1)) (sum_to m)
            (get_or tallies m 0)
            (λ s a. elim (cases_eq (code_of s) m) [ inl at ↦ inr (from_here m s a.0 at) | inr other ↦ inl (a.0, omega (arith, a.1, other)) ])
            (λ s a. (a.0, omega (arith, a.1)))
            (λ s b. let r = stated_here m is s b in (r.0, omega (arith, r.1)))
            (λ s a b. omega (arith, a.1, b.stated.stated))
            before (counted m))
        | inr none ↦
            let here : share_of m ≡ 0 = rw none refl in
            let same : sum_to m + share_of m ≡ sum_to m = omega (arith, here) in
            subst (AreSoMany (stated_below (m + 1))) (sym same)
            (many_same (stated_below m) (stated_below (m + 1)) (sum_to m) (λ s a. (a.0, omega (arith, a.1)))
            (λ s a. (
              a.0,
              elim (cases_eq (code_of s) m) [
                | inl at ↦
                    let bad : true ≡ false = sym a.0.asked ∙ (ap (λ code. is_of_kind kind (value_in code)) at ∙ none) in
                    cc
                | inr other ↦ omega (arith, a.1, other)
              ],
            ))
            before)
      ]))

  -- none has a code that is past the end of the tallies
  within : (s : Sides) → IsStated board t all kind s → code_of s < length tallies
  within s a = elim (cases_lt (code_of s) (length tallies)) [
    | inl low ↦ low
    | inr past ↦
        let many = counted (code_of s) in
        let here = (many.listed s).1 (from_here (code_of s) s a refl) in
        absurd (omega (arith, here.1, many.many, get_or_past tallies (code_of s) 0 past))
  ]

  pub many_of_kind : AreSoMany (IsStated board t all kind) (sum_by share_of (range_with_len 0 (length tallies)))
  many_of_kind =
      many_same (stated_below (length tallies)) (IsStated board t all kind) (sum_to (length tallies)) (λ s a. a.0) (λ s a. (a, within s a)) (many_below (length tallies))

-- the tallies of all entries say what is counted of both kinds
module _ (board : Shape) (few : board.points ≤ 24) (y : HasSymmetries board) (t : Table) (pair : IsPair board.points t.pair) (all : Bool) (tallies : List ℕ)
    (counted : AreTalliesOf board t all 0 (entry_count board board.points t.layout t.pair) tallies) where
  pub tallied_shown : AreTallies (has_shown board t all) tallies
  tallied_shown = λ code.
      many_same (λ s. IsBetween board t all 0 (entry_count board board.points t.layout t.pair) s code) (λ s. has_shown board t all s code) (get_or tallies code 0)
      (λ s b. (b.stated, b.shown))
      (λ s a. record { stated = a.0; shown = a.1; from = omega arith; below = (laid board few y t.layout t.pair pair).below s a.0.lawful a.0.of })
      (counted code)

  many_kind : (kind : Option Kind) → IfSome kind (λ k. AreSoMany (IsStated board t all k) (kind_sum kind tallies))
  many_kind None = tt
  many_kind (Some k) = many_of_kind board t all k tallies counted (λ s a. stated_inside board few y t pair all k s a)

  none_kind : (kind : Option Kind) → kind ≡ None → kind_sum kind tallies ≡ 0
  none_kind kind none = ap (λ k. kind_sum k tallies) none

  pub many_both : (kinds : Option Kind × Option Kind) → AreManyOfBoth (λ k s. IsStated board t all k s) kinds (kind_sum kinds.0 tallies + kind_sum kinds.1 tallies)
  many_both kinds = record {
    first = kind_sum kinds.0 tallies;
    second = kind_sum kinds.1 tallies;
    sum = refl;
    of_first = many_kind kinds.0;
    of_second = many_kind kinds.1;
    none_first = none_kind kinds.0;
    none_second = none_kind kinds.1;
  }

-- ---- both kinds, one after the other

module _ (asked : Kind → Sides → Type 0) (entry : Sides → ℕ) where
  -- there may be fewer, but not fewer than there are
  are_less : (kind : Option Kind) (most n : ℕ) (ps : List Sides) → length ps ≤ n → n ≤ most → AreOf asked entry most kind ps → AreOf asked entry n kind ps
  are_less None most n ps few less h = h
  are_less (Some kind) most n ps few less h = record {
    each = h.each;
    in_order = h.in_order;
    few = few;
    whole = λ s a. elim (h.whole s a) [ inl there ↦ inl there | inr full ↦ inr (omega (arith, full.0, few, less), full.1) ];
  }

  are_few : (kind : Option Kind) (most : ℕ) (ps : List Sides) → AreOf asked entry most kind ps → length ps ≤ most
  are_few None most ps h = omega (arith, ap length h)
  are_few (Some kind) most ps h = h.few

  none_of : (kind : Option Kind) → AreOf asked entry 0 kind []
  none_of None = refl
  none_of (Some kind) = record {
    each = λ s c. absurd (omega (arith, c.1));
    in_order = λ i j d less within. absurd (omega arith);
    few = omega arith;
    whole = λ s a. inr (refl, λ t c. absurd (omega (arith, c.1)));
  }

  module _ (kinds : Option Kind × Option Kind) (most : ℕ) where
    -- some of the first kind alone
    pub both_first : (n : ℕ) (ps : List Sides) → n ≤ most → AreOf asked entry n kinds.0 ps → (length ps ≤ most) × AreOfBoth asked entry (length ps) kinds ps
    both_first n ps less h =
        let few : length ps ≤ n = are_few kinds.0 n ps h in
        let none : 0 ≡ length ps - length ps = omega arith in (
          omega (arith, few, less),
          record {
            first = ps;
            second = [];
            split = sym (append-nil ps);
            of_first = are_less kinds.0 n (length ps) ps (omega arith) few h;
            of_second = subst (λ k. AreOf asked entry k kinds.1 []) none (none_of kinds.1);
          },
        )

    -- all of the first kind, and some of the second
    pub both_part : (n : ℕ) (ps qs : List Sides) → AreOf asked entry most kinds.0 ps → n ≤ most - length ps → AreOf asked entry n kinds.1 qs
        → (length ps + n ≤ most) × AreOfBoth asked entry (length ps + n) kinds (ps ++ qs)
    both_part n ps qs first less second =
        let few : length ps ≤ most = are_few kinds.0 most ps first in
        let left : n ≡ length ps + n - length ps = omega arith in (
          omega (arith, few, less),
          record {
            first = ps;
            second = qs;
            split = refl;
            of_first = are_less kinds.0 most (length ps + n) ps (omega arith) (omega (arith, few, less)) first;
            of_second = subst (λ k. AreOf asked entry k kinds.1 qs) left second;
          },
        )

-- ---- as many as there may be, or the first of them

pub not_ok : (T E P : Type 0) (failed : E) → IsOk {T = T} (Err failed) → P
not_ok T E P failed ok =
    let bad : false ≡ true = ok in
    cc

module _ {T : Type 0} (are : ℕ → List Sides → Type 0) (most : ℕ) (ps : List Sides) (done : T) (failed : Bool) where
  pub all_to : are most ps → AreFoundTo are most ps (Ok done) failed
  all_to h = (most, omega arith, (λ ok well. refl), h)

  pub to_all : failed ≡ false → AreFoundTo are most ps (Ok done) failed → are most ps
  to_all well h = subst (λ n. are n ps) (h.2 refl well) h.3

-- ---- after a write that failed

module _ {S : Type 0} (contents : S → Option (List ℕ)) (failures : S → ℕ) where
  none_out : (p q : Bool) (a b : Outlet S) (x y k : List ℕ) → p ≡ true → GoesOut contents failures p q a b x k → GoesOut contents failures p q a b y k
  none_out false q a b x y k failed goes = cc
  none_out true false a b x y k failed goes = goes
  none_out true true a b x y k failed goes = goes

  still_failed : (p q : Bool) (a b : Outlet S) (x k : List ℕ) → p ≡ true → GoesOut contents failures p q a b x k → q ≡ true
  still_failed false q a b x k failed goes = cc
  still_failed true false a b x k failed goes = absurd goes
  still_failed true true a b x k failed goes = refl

  -- nothing goes out, whatever is put in
  pub Takes-none : (a b : Printer S) (t u : List ℕ) → has_failed_of a ≡ true → Takes contents failures a b t → Takes contents failures a b u
  Takes-none a b t u failed takes = record {
    same = takes.same;
    lets_out = record {
      goes = none_out (has_failed_of a) (has_failed_of b) (outlet_of a) (outlet_of b) (held_of a ++ t) (held_of a ++ u) (held_of b) failed takes.lets_out.goes;
    };
  }

  -- and it stays failed
  pub Takes-failed : (a b : Printer S) (t : List ℕ) → has_failed_of a ≡ true → Takes contents failures a b t → has_failed_of b ≡ true
  Takes-failed a b t failed takes =
      still_failed (has_failed_of a) (has_failed_of b) (outlet_of a) (outlet_of b) (held_of a ++ t) (held_of b) failed takes.lets_out.goes

module _ {S : Type 0} (contents : S → Option (List ℕ)) (failures : S → ℕ) (board : Shape) (entries : CodedEntries) (all : Bool) (kinds : Option Kind × Option Kind)
    (most : ℕ) where
  abbrev asked_in : List ℕ → Kind → Sides → Type 0
  asked_in known kind s = IsStated board (table_of entries known) all kind s

  abbrev place_in : Sides → ℕ
  place_in s = entry_index board board.points entries.layout entries.pair s

  -- so many of a kind
  abbrev of_one : List ℕ → Option Kind → ℕ → List Sides → Type 0
  of_one known kind n ps = AreOf (asked_in known) place_in n kind ps

  -- no code of the first kind's could be read
  pub puts_first : {T : Type 0} (old new : Printer S) (why reason : Failed) → PutsKind contents failures board entries all kinds.0 most old new (Err why)
      → PutsKinds contents failures board {T = T} entries all kinds most old new (Err reason)
  puts_first {T} old new why reason h = record {
    positions = h.positions;
    few = omega (arith, h.few);
    takes = h.takes;
    found =
        some_map entries.stated _ _
        (λ known part.
        let both = both_first (asked_in known) place_in kinds most part.0 h.positions part.1 part.3 in
        (length h.positions, both.0, (λ ok. not_ok T Failed _ reason ok), both.1)) h.found;
  }

  module _ (old middle new : Printer S) (left : ℕ) (first : PutsKind contents failures board entries all kinds.0 most old middle (Ok left)) where
    -- a write failed among those of the first kind
    puts_cut : {T : Type 0} (r : Result T Failed) (text : List ℕ) → has_failed_of middle ≡ true → Takes contents failures middle new text
        → PutsKinds contents failures board entries all kinds most old new r
    puts_cut r text failed takes =
        let still : has_failed_of new ≡ true = Takes-failed contents failures middle new text failed takes in
        record {
          positions = first.positions;
          few = omega (arith, first.few);
          takes = ends first.takes (Takes-none contents failures middle new text [] failed takes);
          found =
              some_map entries.stated _ _
              (λ known part.
              let both = both_first (asked_in known) place_in kinds most part.0 first.positions part.1 part.3 in
              (length first.positions, both.0, (λ ok well. cc), both.1)) first.found;
        }

    -- the first kind came to its end, and so did the second, or a code couldn't be read
    pub puts_second : {T : Type 0} (q : Result ℕ Failed) (r : Result T Failed) → (IsOk r → IsOk q) → PutsKind contents failures board entries all kinds.1 left middle new q
        → PutsKinds contents failures board entries all kinds most old new r
    puts_second q r whole second = elim (cases_Bool (has_failed_of middle)) [
      | inl failed ↦ puts_cut r (found_text board second.positions) failed second.takes
      | inr unfailed ↦
          let ps : List Sides = first.positions in
          let rest : left ≡ most - length ps = first.rest in
          record {
            positions = ps ++ second.positions;
            few = omega (arith, length-append ps second.positions, first.few, second.few);
            takes = and_then_as (found_text-append board ps second.positions) first.takes second.takes;
            found =
                both_some entries.stated _ _ _
                (λ known one part.
                let of_first = to_all (of_one known kinds.0) most ps left (has_failed_of middle) unfailed one in
                let both = both_part (asked_in known) place_in kinds most part.0 ps second.positions of_first (omega (arith, part.1, rest)) part.3 in (
                  length ps + part.0,
                  both.0,
                  (λ ok well. omega (arith, part.2 (whole ok) well, rest, are_few (asked_in known) place_in kinds.0 most ps of_first)),
                  both.1,
                )) first.found second.found;
          }
    ]
