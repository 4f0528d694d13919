-- What a turn gives, counted.
use Rattle.std.proofs.Common.{◌≡◌, ℕ, suc, [], ◌∷◌, ◌++◌, length, refl, sym, ap, ◌∙◌}
use Rattle.std.specs.List.{flat_map}
use Rattle.run_meaning.specs.Runs.{TurnLog}
use Rattle.run_meaning.specs.Turns.{Histories}
use Rattle.run_meaning.proofs.Lists.{length_map}
use Rattle.site_posts.specs.Segments.{segments_from}
use Rattle.turn_engine.specs.Orders.{order_as}
use Rattle.turn_engine.specs.Stages.{Tells}
use Rattle.turn_engine.specs.declared.turn_out.TurnOut.{TurnOut}
use Rattle.site_gen.specs.Counting.{entries_in, with_entries, with_orders, with_turn}
use Rattle.site_gen.specs.Counts.{entries_of}
use Rattle.site_gen.specs.declared.counts.Counts.{Counts}

entries_from : (k : ℕ) (round : Histories) → entries_in (segments_from k round) ≡ flat_map (λ es. es) round
entries_from k [] = refl
entries_from k ([] ∷ round) = entries_from (suc k) round
entries_from k ((e ∷ es) ∷ round) = ap (λ fs. (e ∷ es) ++ fs) (entries_from (suc k) round)

pub told : (c new : Counts) (out : TurnOut) (l : TurnLog) → Tells out l → new ≡ with_orders (with_entries c (entries_in out.segments)) (length out.orders.items) → new ≡ with_turn c l
told c new out l tells is =
    let orders : length out.orders.items ≡ length l.orders = sym (length_map order_as out.orders.items) ∙ ap length tells.ordered in
    is
    ∙ ap (λ es. with_orders (with_entries c es) (length out.orders.items)) (ap entries_in tells.entries ∙ entries_from 0 l.round)
    ∙ ap (with_orders (with_entries c (entries_of l))) orders
