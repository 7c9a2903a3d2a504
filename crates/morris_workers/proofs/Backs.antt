-- The seats of workers that are back: where there is a fault of some, nothing more is said of all.
use Rattle.std.proofs.Common.{Result, Ok, Err, List, ◌∷◌}
use Rattle.std.specs.Result.{result_and}
use Rattle.std.specs.List.{All}
use Rattle.std.proofs.lemmas.List.Elements.{All-cons}
use Rattle.morris_workers.specs.Working.{IsBack}
use Rattle.morris_workers.specs.declared.tickets.Tickets.{Tickets}
use Rattle.morris_workers.specs.declared.tickets.TicketSeat.{TicketSeat}

module _ {T E : Type 0} (t : Tickets) (said : TicketSeat → Type 0) where
  one_back : (one others : Result T E) (s : TicketSeat) → IsBack t said one s → IsBack t said (result_and one others) s
  one_back (Ok x) (Ok y) s back = record { of = back.of; drawn = back.drawn }
  one_back (Ok x) (Err e) s back = record { of = back.of; drawn = tt }
  one_back (Err e) others s back = record { of = back.of; drawn = tt }

  also_back : (one others : Result T E) (s : TicketSeat) → IsBack t said others s → IsBack t said (result_and one others) s
  also_back (Ok x) others s back = back
  also_back (Err e) others s back = record { of = back.of; drawn = tt }

  -- the first seat and the others
  pub all_back : (one others : Result T E) (s : TicketSeat) (rest : List TicketSeat) → IsBack t said one s → All (IsBack t said others) rest
      → All (IsBack t said (result_and one others)) (s ∷ rest)
  all_back one others s rest first back =
      All-cons (IsBack t said (result_and one others)) s rest (one_back one others s first) (λ k d inside. also_back one others _ (back k d inside))
