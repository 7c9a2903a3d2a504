-- The seats that are made with tickets, and those that are given back.
use Rattle.std.proofs.Common.{◌≡◌, ℕ, ◌<◌, List, [], ◌∷◌, ◌++◌, length, get_or, take, drop, sym, ap, subst, ◌∙◌, arith}
use Rattle.std.specs.List.{All}
use Rattle.std.proofs.lemmas.List.Elements.{All-push}
use Rattle.atomic_table.specs.declared.shared.Seat.{Seat}
use Rattle.morris_workers.specs.declared.draws.View.{View}
use Rattle.morris_workers.specs.declared.tickets.Tickets.{Tickets}
use Rattle.morris_workers.specs.declared.tickets.TicketSeat.{TicketSeat}
use Rattle.morris_workers.specs.Tickets.{IsNewSeatOf}
use Rattle.morris_workers.specs.TicketSteps.{IsFirstSeat, IsJoined}

pub one_more_seat : (t : Tickets) (old new : List TicketSeat) (s : TicketSeat) → new ≡ old ++ s ∷ [] → All (IsNewSeatOf t) old → IsNewSeatOf t s → All (IsNewSeatOf t) new
one_more_seat t old new s e all is = subst (All (IsNewSeatOf t)) (sym e) (All-push (IsNewSeatOf t) old s all is)

pub first_is_new : (t : Tickets) (left : ℕ) (f : Seat (Unit {0}) View) (s : TicketSeat) → IsFirstSeat t left f → s.seat ≡ f → IsNewSeatOf t s
first_is_new t left f s first e = record {
  of = record { table = ap (λ g. g.table_id) e ∙ first.table; limit = ap (λ g. g.me.0.limit) e ∙ ap (λ m. m.0.limit) first.view };
  numbers = ap (λ g. g.me.0.drawn) e ∙ ap (λ m. m.0.drawn) first.view;
  ready = ap (λ g. g.me.0.ended) e ∙ ap (λ m. m.0.ended) first.view;
}

-- a list is its first element and what is left
first_and_rest : {A : Type 0} (l rest : List A) (x : A) → 0 < length l → x ≡ get_or l 0 x → rest ≡ take 0 l ++ drop 1 l → l ≡ x ∷ rest
first_and_rest [] rest x h e r = absurd (omega arith)
first_and_rest (y ∷ ys) rest x h e r = λ i. sym e i ∷ sym r i

-- the seat to which the first one and the others were joined is joined to all
pub joined_whole : (t : Tickets) (seats rest : List TicketSeat) (first : TicketSeat) (all : Seat (Unit {0}) View)
    → 0 < length seats → first ≡ get_or seats 0 first → rest ≡ take 0 seats ++ drop 1 seats → IsJoined t (first ∷ rest) all → IsJoined t seats all
joined_whole t seats rest first all h e r joined = subst (λ l. IsJoined t l all) (sym (first_and_rest seats rest first h e r)) joined
