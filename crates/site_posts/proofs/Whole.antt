-- Callers that have walked at posts, and the ends of these, make a round.
use Rattle.std.proofs.Common.{◌≡◌, ℕ, List, length, map, slice_get, Some, sym, ap, ◌∙◌, subst, arith}
use Rattle.std.specs.Prelude.{Vec}
use Rattle.std.specs.List.{AllZip}
use Rattle.std.specs.declared.alloc.Global.{Global}
use Rattle.std.proofs.lemmas.List.{length-map}
use Rattle.std.proofs.lemmas.Option.{slice_get_within}
use Rattle.post_turn.specs.declared.post.Post.{Post}
use Rattle.post_turn.specs.declared.pass.Pass.{Pass}
use Rattle.post_rounds.specs.declared.base.Base.{Base}
use Rattle.post_rounds.specs.declared.caller.Caller.{Caller}
use Rattle.post_rounds.specs.declared.ended.Ended.{Ended}
use Rattle.post_rounds.specs.declared.job.Job.{Job}
use Rattle.post_rounds.specs.Rounds.{HasDone, IsEnd, IsRound, Sense, histories_of}
use Rattle.post_rounds.specs.Hands.{AreCallers, AreHands, AreHeld, HasWalked, base_of, seen_by}
use Rattle.post_rounds.specs.Ends.{AreEnds, GrewByOthers}
use Rattle.post_rounds.proofs.Courses.{settled}
use Rattle.post_rounds.proofs.Places.{get_map, get_within, zip_at, zip_length}

abbrev pub jobs_in : {W : Type 0} → Vec (Job W) Global → List (Job W)
jobs_in js = js.items

module _ {M S V E G W : Type 0} (x : Sense M S V E G W) (fit : M → S → Type 0) (posts : List (Post M S V E G)) (bases : x.bases ≡ map base_of posts) (lists : List (Vec (Job W) Global)) (callers : List (Caller M W S V E G)) (hands : List (Vec (Pass M S V E G) Global))
    (are : AreCallers posts lists callers) (walked : AllZip (λ (c : Caller M W S V E G) (hand : Vec (Pass M S V E G) Global). HasWalked x posts c hand.items) callers hands) where
  abbrev Walked : Caller M W S V E G → Vec (Pass M S V E G) Global → Type 0
  Walked c hand = HasWalked x posts c hand.items

  pub count : length hands ≡ length lists
  count = zip_length Walked callers hands walked ∙ are.whole

  pub hands_held : AreHands x.caller_of posts hands
  hands_held j hand at =
      let w = slice_get_within hands j hand at in
      let n = zip_length Walked callers hands walked in
      let c = get_within callers j (omega (arith, w, n)) in
      (c.0.number, (zip_at Walked callers hands walked j c.0 hand c.1 at).held)

  pub made_round : (ended : List (Ended S E)) → AreEnds fit x.after x.caller_of (length hands) posts ended
      → ((j k : ℕ) (hand : Vec (Pass M S V E G) Global) → slice_get hands j ≡ Some hand → AreHeld x.caller_of posts k hand.items → GrewByOthers x.caller_of k (seen_by hand.items) (histories_of ended))
      → IsRound x fit (map jobs_in lists) ended
  made_round ended ends grown = record {
    whole = ends.whole ∙ sym (length-map posts base_of) ∙ ap length (sym bases);
    ends = λ p base e at_base at_e.
        let f = get_map base_of posts p base (ap (λ bs. slice_get bs p) (sym bases) ∙ at_base) in
        subst (λ b. IsEnd fit x.after x.caller_of (length (map jobs_in lists)) b e) f.2
        (subst (λ n. IsEnd fit x.after x.caller_of n (base_of f.0) e) (count ∙ sym (length-map lists jobs_in)) (ends.each p f.0 e f.1 at_e));
    courses = λ k js at_js.
        let l = get_map jobs_in lists k js at_js in
        let within = slice_get_within lists k l.0 l.1 in
        let c = get_within callers k (let n = are.whole in omega (arith, within, n)) in
        let h = get_within hands k (let n = count in omega (arith, within, n)) in
        let is = are.each k l.0 c.0 l.1 c.1 in
        let w = zip_at Walked callers hands walked k c.0 h.0 c.1 h.1 in
        let g = grown k c.0.number h.0 h.1 w.held in
        subst (HasDone x (histories_of ended) k) (ap jobs_in is.1 ∙ l.2)
        (subst (λ n. HasDone x (histories_of ended) n c.0.jobs.items) is.0 (settled x c.0.number (seen_by h.0.items) (histories_of ended) c.0.jobs.items g.longer g.own w.done));
  }
