-- A round whose entries are those of moves, each of which has seen all that the moves before it made, is the round of these moves.
use Rattle.std.proofs.Common.{◌≡◌, ℕ, List, length, take, map, slice_get, nat_eq, Some, refl, sym, ap, ◌∙◌, eq-eqb}
use Rattle.site_model.specs.PlainSite.{PlainCheck}
use Rattle.site_model.specs.declared.entry.Entry.{Entry}
use Rattle.site_model.specs.declared.sight.Sight.{Sight}
use Rattle.run_meaning.specs.Turns.{Asked, Histories, of_index}
use Rattle.run_meaning.specs.Acts.{Rules, entry_of}
use Rattle.run_meaning.specs.Rounds.{behind, all_seen, IsRound}
use Rattle.run_meaning.specs.Alone.{Move, sights_now, round_of}
use Rattle.run_meaning.specs.Shares.{done_in}
use Rattle.run_meaning.proofs.Lists.{get_map, get_of_map, length_map, kept_at, moves_on}
use Rattle.run_meaning.proofs.Sole.{done_by, front, IsNext, sole_is_round_of}
use Rattle.run_meaning.proofs.Meeting.{sights_are, seen_agree, sight_full, seen_kept}

-- an entry by its parts
made_same : (b : Rules) (moment c : ℕ) (check : PlainCheck) (history : List Entry) (all now : ℕ → List Entry) (sights : List Sight) (m : Move) (e : Entry) → e ≡ entry_of b c check history (all_seen b.site all e.sights) (record { caller = e.caller; moment = moment; event = e.event; sights = e.sights }) → done_in e ≡ done_by m → e.sights ≡ sights → all_seen b.site all sights ≡ all_seen b.site now sights → e ≡ entry_of b c check history (all_seen b.site now sights) (record { caller = m.caller; moment = moment; event = m.asked.event; sights = sights })
made_same b moment c check history all now sights m e made done same seen =
    made
    ∙ ap (λ p. entry_of b c check history (all_seen b.site all e.sights) (record { caller = p.0; moment = moment; event = p.1; sights = e.sights })) done
    ∙ ap (λ ss. entry_of b c check history (all_seen b.site all ss) (record { caller = m.caller; moment = moment; event = m.asked.event; sights = ss })) same
    ∙ ap (λ vs. entry_of b c check history vs (record { caller = m.caller; moment = moment; event = m.asked.event; sights = sights })) seen

-- the entry that the move of this index made
abbrev pub EntryOf : List Move → Histories → ℕ → Move → Entry → Type 0
EntryOf moves round i m e = slice_get (of_index m.asked.checkable round) (length (moves_on m.asked.checkable (take i moves))) ≡ Some e

-- each entry has seen all that stood when its move was made
abbrev pub AllSeen : Histories → List Move → Histories → Type 0
AllSeen before moves round =
    (i : ℕ) (m : Move) (e : Entry) → slice_get moves i ≡ Some m → EntryOf moves round i m e → (j : ℕ) (y : Sight) → slice_get e.sights j ≡ Some y → y.count ≡ length (front before moves round i y.checkable)

module _ (b : Rules) (moment : ℕ) (before : Histories) (events : List (List Asked)) (round : Histories) (x : IsRound b moment before events round) (moves : List Move) (taken : (c : ℕ) → map done_in (of_index c round) ≡ map done_by (moves_on c moves)) (seen : AllSeen before moves round) where
  len : (c : ℕ) → length (of_index c round) ≡ length (moves_on c moves)
  len c = sym (length_map done_in (of_index c round)) ∙ ap length (taken c) ∙ length_map done_by (moves_on c moves)

  next : (i : ℕ) (m : Move) → slice_get moves i ≡ Some m → IsNext b moment before moves round i m
  next i m h =
      let c = m.asked.checkable in
      let n = length (moves_on c (take i moves)) in
      let here : slice_get (moves_on c moves) n ≡ Some m = kept_at (λ (o : Move). nat_eq o.asked.checkable c) moves i m h (eq-eqb c c refl) in
      let (e, at, is) = get_map done_in (of_index c round) n (done_by m) (ap (λ z. slice_get z n) (taken c) ∙ get_of_map done_by (moves_on c moves) n m here) in
      let made = x.made c n e at in
      let now = front before moves round i in
      let sights : e.sights ≡ sights_now b c now = sights_are now e.sights (seen i m e h at) ∙ ap (map (λ (p : ℕ). record { checkable = p; count = length (now p) })) (x.ancestors c n e at) in
      let agreed : all_seen b.site (behind before round) (sights_now b c now) ≡ all_seen b.site now (sights_now b c now) = sym (seen_agree b.site now (behind before round) (sights_now b c now) (λ j y k. seen_kept b moment before moves round i y (sight_full b c now j y k) (len y.checkable))) in
      record {
        check = made.check;
        is = made.is;
        at = at ∙ ap Some (made_same b moment c made.check (now c) (behind before round) now (sights_now b c now) m e made.made is sights agreed);
      }

  pub round_is : round ≡ round_of b moment before moves
  round_is = sole_is_round_of b moment before moves round (record { whole = x.whole; taken = taken; made = next })
