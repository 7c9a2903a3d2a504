use Rattle.std.proofs.Common.{◌≡◌, ◌∙◌, [], ◌∷◌, inl, inr, map, subst, sym}
use Rattle.clap.specs.Kinds.{or_else}
use Rattle.clap.specs.Words.{HasKind, IsAmong, Kinds, fault_of, kind_of}
use Rattle.clap.specs.declared.error.Error.{Error}
use Rattle.clap.specs.declared.error.kind.ErrorKind.{ErrorKind}
use Rattle.clap.specs.declared.error.kind.ErrorKind.TheVariants.{DisplayHelp, DisplayVersion, OutOfMemory}
use Rattle.morris_words.specs.Words.{IsAnswerTo, IsAnswerToOneOf, NamesRequest, clashes, faults_of, morris_app, named_by}
use Rattle.morris_words.specs.declared.arguments.Refusal.{Refusal}
use Rattle.morris_words.specs.declared.arguments.Refusal.TheVariants.{Memory, Help, Version, Wrong}
use Rattle.morris_words.proofs.Requests.{named}
use Rattle.morris_words.proofs.arguments.read_arguments.Goals as goal

answered : (kinds : Kinds) (e : Error) (r : Refusal) → HasKind kinds e → IsAnswerTo (kind_of e) r → IsAnswerToOneOf kinds r
answered kinds e Memory has answers = tt
answered kinds e (Help text) has answers = elim has [
  | inl memory ↦
      let bad : OutOfMemory ≡ DisplayHelp = sym memory ∙ answers in
      cc
  | inr among ↦ subst (λ (k : ErrorKind). IsAmong k kinds) answers among
]
answered kinds e (Version text) has answers = elim has [
  | inl memory ↦
      let bad : OutOfMemory ≡ DisplayVersion = sym memory ∙ answers in
      cc
  | inr among ↦ subst (λ (k : ErrorKind). IsAmong k kinds) answers among
]
answered kinds e (Wrong text) has answers = elim has [
  | inl memory ↦ absurd (answers.2 memory)
  | inr among ↦ (kind_of e, answers.0, answers.1, among)
]

pub request_of-requires : goal.request_of-requires
request_of-requires g c =
    let arguments = map g.S.AsStr.text c.args.arguments.now in
    subst NamesRequest (sym c.in-Ok.ensures.matches) (named arguments c.in-Ok.ensures.kinds)

-- a kind that comes first
first_kind : (kinds more : Kinds) (e : Error) → HasKind kinds e → HasKind (or_else kinds more) e
first_kind [] more e has = elim has [
  | inl memory ↦ inl memory
  | inr among ↦ absurd among
]
first_kind (k ∷ ks) more e has = has

pub returns-in-Err-clause-refused : goal.returns-in-Err-clause-refused
returns-in-Err-clause-refused g c =
    let arguments = map g.S.AsStr.text c.args.arguments.now in
    let kind = first_kind (fault_of morris_app arguments) (clashes (named_by arguments)) c.in-Err.error c.in-Err.ensures.kinds in
    answered (faults_of arguments) c.in-Err.error c.refusal_of.result kind c.refusal_of.ensures
