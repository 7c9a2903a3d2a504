-- A part that is written, renamed or removed, and what that leaves.
use Rattle.std.proofs.Common.{◌≡◌, ◌≢◌, ℕ, ◌+◌, ◌<◌, Bool, List, Option, Some, None, true, false, refl, sym, ap, subst, ◌∙◌, arith, length, length-append, inl, inr, ◌⊎◌}
use Rattle.std.specs.Prelude.{codes, if◌then◌else◌}
use Rattle.morris_files.specs.Files.{Files, Goes, AreSame, AreUnrenamed, HasFailed}
use Rattle.morris_files.specs.Whole.{part_of, ArePart, AreNotPart, AreGivenUp, AreNotWhole, IsOfPart, IsAsItWas, MayBeGone, failures_at, failures_in, may_leave}
use Rattle.morris_files.specs.declared.whole.Step.{Step}
use Rattle.morris_files.specs.declared.whole.Step.TheVariants.{Memory, Create, Write, Sync, Rename, Settle}
use Rattle.morris_files.specs.declared.whole.NotWhole.{NotWhole}

-- one call after another
pub goes-trans : {P Q R : Files → Files → Type 0} → ((x y z : Files) → P x y → Q y z → R x z) → (a b c : Option Files) → Goes a b P → Goes b c Q → Goes a c R
goes-trans join None b c p q = tt
goes-trans join (Some x) None c p q = absurd p
goes-trans join (Some x) (Some y) None p q = absurd q
goes-trans join (Some x) (Some y) (Some z) p q = join x y z p q

-- a part has another name than its file
pub part-apart : (name : List ℕ) → name ≢ part_of name
part-apart name e = omega (arith, ap length e, length-append name (codes ".part"))

-- a step of the writing of a part leaves the file as it was
as-it-was : (step : Step) (name bytes : List ℕ) (old new : Files) → IsOfPart step → new name ≡ old name → IsAsItWas step name bytes old new
as-it-was Memory name bytes old new of e = absurd of
as-it-was Rename name bytes old new of e = absurd of
as-it-was Settle name bytes old new of e = absurd of
as-it-was _ name bytes old new of e = e

-- whether a step is the one that is named
abbrev is_memory : Step → Bool
is_memory Memory = true
is_memory _ = false

abbrev is_create : Step → Bool
is_create Create = true
is_create _ = false

abbrev is_settle : Step → Bool
is_settle Settle = true
is_settle _ = false

-- what may be gone may be gone once no file was changed
gone-still : (part : List ℕ) (x y z : Files) → MayBeGone part x y → AreSame y z → MayBeGone part x z
gone-still part x y z gone same = elim gone [ inl e ↦ inl (same part ∙ e) | inr e ↦ inr (same part ∙ e) ]

-- a part that wasn't written
pub unwritten : (part name bytes : List ℕ) (step : Step) (fault : NotWhole) → part ≡ part_of name → fault.step ≡ step → IsOfPart step
    → (x y z : Files) → AreNotPart part step x y → AreGivenUp part fault y z → AreNotWhole name bytes fault x z
unwritten part name bytes step fault this same of x y z p q =
    let off : (other : List ℕ) → other ≢ part_of name → z other ≡ x other =
    λ other ne. let apart : other ≢ part = λ e. ne (e ∙ this) in q.others other apart ∙ p.others other apart in
    record {
      as_it_was = as-it-was fault.step name bytes x z (subst IsOfPart (sym same) of) (off name (part-apart name));
      no_part = λ may left. ap z (sym this) ∙ q.gone may left;
      unchanged = λ first. absurd (subst IsOfPart (sym same ∙ first) of);
      unmade = λ created. subst (λ under. MayBeGone under x z) this (gone-still part x y z (p.unmade (sym same ∙ created)) (q.unchanged (ap may_leave created)));
      settled = λ last. absurd (subst IsOfPart (sym same ∙ last) of);
      others = λ other one two. off other two;
    }

-- a part that wasn't renamed
pub unrenamed : (part name bytes : List ℕ) (fault : NotWhole) → part ≡ part_of name → fault.step ≡ Rename
    → (w x y z : Files) → ArePart part bytes w x → AreUnrenamed part name x y → AreGivenUp part fault y z → AreNotWhole name bytes fault w z
unrenamed part name bytes fault this same w x y z p r q =
    let apart : name ≢ part = λ e. part-apart name (e ∙ this) in
    let here : z name ≡ y name = q.others name apart in
    let either : (z name ≡ w name) ⊎ (z name ≡ Some bytes) =
    elim r.either [ inl e ↦ inl (here ∙ (e ∙ p.others name apart)) | inr e ↦ inr (here ∙ (e ∙ p.whole)) ] in
    record {
      as_it_was = subst (λ step. IsAsItWas step name bytes w z) (sym same) either;
      no_part = λ may left. ap z (sym this) ∙ q.gone may left;
      unchanged = λ first. absurd (let e : false ≡ true = sym (ap is_memory same) ∙ ap is_memory first in cc);
      unmade = λ created. absurd (let e : false ≡ true = sym (ap is_create same) ∙ ap is_create created in cc);
      settled = λ last. absurd (let e : false ≡ true = sym (ap is_settle same) ∙ ap is_settle last in cc);
      others = λ other one two. let off : other ≢ part = λ e. two (e ∙ this) in q.others other off ∙ (r.others other off one ∙ p.others other off);
    }

-- three calls, one after another
pub goes-trans_three : {P Q R S : Files → Files → Type 0} → ((w x y z : Files) → P w x → Q x y → R y z → S w z)
    → (a b c d : Option Files) → Goes a b P → Goes b c Q → Goes c d R → Goes a d S
goes-trans_three join None b c d p q r = tt
goes-trans_three join (Some w) None c d p q r = absurd p
goes-trans_three join (Some w) (Some x) None d p q r = absurd q
goes-trans_three join (Some w) (Some x) (Some y) None p q r = absurd r
goes-trans_three join (Some w) (Some x) (Some y) (Some z) p q r = join w x y z p q r

-- a refusal that isn't one of memory has a cause: a call of the folder failed, or a write
pub whole_failed : {W : Type 0} (writing : W → ℕ) (old new : ℕ) (fault : NotWhole) → (fault.step ≡ Memory → ⊥) → new ≡ old + failures_in fault
    → (fault.step ≡ Write → HasFailed writing) → (old < new) ⊎ HasFailed writing
whole_failed writing old new fault other counted unwritten = by_step fault.step refl
  where
    sum : new ≡ old + (failures_at fault.step + (if fault.left then 1 else 0))
    sum = counted

    risen : failures_at fault.step ≡ 1 → old < new
    risen one = omega (arith, sum, one)

    by_step : (step : Step) → fault.step ≡ step → (old < new) ⊎ HasFailed writing
    by_step Memory is = absurd (other is)
    by_step Create is = inl (risen (ap failures_at is))
    by_step Write is = inr (unwritten is)
    by_step Sync is = inl (risen (ap failures_at is))
    by_step Rename is = inl (risen (ap failures_at is))
    by_step Settle is = inl (risen (ap failures_at is))
