-- One act, behind the looks.
use Rattle.std.proofs.Common.{◌<◌, length, map, refl, sym, ◌∙◌, subst, arith}
use Rattle.std.proofs.lemmas.List.{length-map}
use Rattle.post_turn.specs.History.{replay}
use Rattle.post_turn.specs.Passes.{Acts, start_of}
use Rattle.post_rounds.specs.Rounds.{sense}
use Rattle.post_rounds.specs.Hands.{Saw, seen_by, base_of}
use Rattle.post_rounds.proofs.Held.{held_at, held_set, acted, base_is}
use Rattle.post_rounds.proofs.walking.take.Goals as goal

pub act-requires-clause-pass : goal.act-requires-clause-pass
act-requires-clause-pass g c κs inside =
    let within : c.args.job.post < length c.args.posts.now = (let l = c.requires.job.post in let n = length-map c.args.posts.now (base_of {M = g.row.M.Denot} {S = g.row.M-State.Denot} {V = g.row.M-Event.Denot} {E = g.row.M-Entry.Denot} {G = g.row.M-Glance.Denot}) in omega arith) in
    (held_at g.M.Machine.caller_of c.args.posts.now c.args.caller c.look_at.new.hand.items c.in_ok-sights.ensures.hand c.args.job.post within c.index-posts-at.result c.index_mut.result.now c.index-posts-at.is c.index_mut.ensures.value).0

pub act-requires-clause-event : goal.act-requires-clause-event
act-requires-clause-event g c κs inside =
    let within : c.args.job.post < length c.args.posts.now = (let l = c.requires.job.post in let n = length-map c.args.posts.now (base_of {M = g.row.M.Denot} {S = g.row.M-State.Denot} {V = g.row.M-Event.Denot} {E = g.row.M-Entry.Denot} {G = g.row.M-Glance.Denot}) in omega arith) in
    let machine = c.index-posts-at.result.machine in
    let looked = c.in_ok-sights.ensures.sights.looked in
    let apt = c.requires.job.is_apt (base_of c.index-posts-at.result) (base_is g.M.Machine.caller_of c.args.posts.now c.args.caller c.look_at.new.hand.items c.in_ok-sights.ensures.hand c.args.job.post within c.index-posts-at.result c.index_mut.result.now c.index-posts-at.is c.index_mut.ensures.value) in
    c.in_ok-event.ensures.lawful machine (subst (g.K.Maker.apt c.args.maker.now machine c.args.job.want) (sym (looked ∙ c.as_slice.ensures)) apt)

pub returns-in-Ok-clause-hand : goal.returns-in-Ok-clause-hand
returns-in-Ok-clause-hand g c =
    let within : c.args.job.post < length c.args.posts.now = (let l = c.requires.job.post in let n = length-map c.args.posts.now (base_of {M = g.row.M.Denot} {S = g.row.M-State.Denot} {V = g.row.M-Event.Denot} {E = g.row.M-Entry.Denot} {G = g.row.M-Glance.Denot}) in omega arith) in
    held_set g.M.Machine.caller_of c.args.posts.now c.args.caller c.look_at.new.hand.items c.in_ok-sights.ensures.hand c.args.job.post within c.index-posts-at.result c.index_mut.result.now c.index-posts-at.is c.index_mut.ensures.value c.act.new.pass c.in-Ok.ensures.pass c.in-Ok.ensures.own

pub returns-in-Ok-clause-did : goal.returns-in-Ok-clause-did
returns-in-Ok-clause-did g c =
    let within : c.args.job.post < length c.args.posts.now = (let l = c.requires.job.post in let n = length-map c.args.posts.now (base_of {M = g.row.M.Denot} {S = g.row.M-State.Denot} {V = g.row.M-Event.Denot} {E = g.row.M-Entry.Denot} {G = g.row.M-Glance.Denot}) in omega arith) in
    let x = sense g.M.Machine.entry_of g.M.Machine.caller_of g.M.Machine.after g.M.Machine.glance_of (g.K.Maker.event_of c.args.maker.now) (map base_of c.args.posts.now) in
    acted g.M.Machine.caller_of c.args.posts.now c.args.caller c.look_at.new.hand.items c.in_ok-sights.ensures.hand c.args.job.post within c.index-posts-at.result c.index_mut.result.now c.index-posts-at.is c.index_mut.ensures.value x refl refl (seen_by c.args.hand.now.items) c.act.new.pass c.args.job c.in_ok-sights.sights refl (subst (λ ls. Saw x (seen_by c.args.hand.now.items) (seen_by c.look_at.new.hand.items) c.args.caller ls c.in_ok-sights.sights) c.as_slice.ensures c.in_ok-sights.ensures.sights) c.in-Ok.ensures.pass.1 c.in-Ok.ensures.own
    (subst (λ v. Acts g.M.Machine.caller_of (λ before. g.M.Machine.entry_of c.index-posts-at.result.machine (replay (g.M.Machine.after c.index-posts-at.result.machine) (start_of c.index-posts-at.result) before) c.index_mut.result.now.caller v) c.index_mut.result.now c.act.new.pass) c.in_ok-event.ensures.event c.in-Ok.ensures.entry)
