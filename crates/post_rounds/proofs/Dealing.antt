-- Callers and their passes, while posts are made.
use Rattle.std.proofs.Common.{◌≡◌, ℕ, ◌+◌, List, [], ◌∷◌, ◌++◌, length, set, slice_get, Some, refl, sym, ap, ◌∙◌, subst, arith, length-append, length-set}
use Rattle.std.specs.Prelude.{Vec}
use Rattle.std.specs.declared.alloc.Global.{Global}
use Rattle.std.proofs.lemmas.Option.{same_Some, slice_get_within, get_or_from_slice_get}
use Rattle.post_turn.specs.declared.post.Post.{Post}
use Rattle.post_turn.specs.declared.pass.Pass.{Pass}
use Rattle.post_turn.specs.Passes.{IsFresh, AreDealt}
use Rattle.post_rounds.specs.declared.caller.Caller.{Caller}
use Rattle.post_rounds.specs.declared.job.Job.{Job}
use Rattle.post_rounds.specs.Hands.{AreFresh, AreCallers, Dealt, DealtTo, GotPass}
use Rattle.post_rounds.proofs.Held.{get_set_other, get_set_same}
use Rattle.post_rounds.proofs.Lists.{by_place}
use Rattle.post_rounds.proofs.Places.{both_snoc, get_within}

module _ {M S V E G : Type 0} where
  fresh_more : (posts : List (Post M S V E G)) (k : ℕ) (hand : List (Pass M S V E G)) (a : Post M S V E G) (b : Pass M S V E G) → AreFresh posts k hand → IsFresh a k b → AreFresh (posts ++ a ∷ []) k (hand ++ b ∷ [])
  fresh_more posts k hand a b fresh one = record {
    whole = length-append hand (b ∷ []) ∙ ap (λ n. n + 1) fresh.whole ∙ sym (length-append posts (a ∷ []));
    each = both_snoc (λ _ x y. IsFresh x k y) posts hand a b fresh.whole fresh.each one;
  }

module _ {M S V E G W : Type 0} where
  -- a caller of one list more
  pub callers_more : (lists : List (Vec (Job W) Global)) (callers : List (Caller M W S V E G)) (jobs : Vec (Job W) Global) (c : Caller M W S V E G) → AreCallers [] lists callers → c.number ≡ length callers → c.jobs ≡ jobs → c.hand.items ≡ [] → AreCallers [] (lists ++ jobs ∷ []) (callers ++ c ∷ [])
  callers_more lists callers jobs c are number is none = record {
    whole = length-append callers (c ∷ []) ∙ ap (λ n. n + 1) are.whole ∙ sym (length-append lists (jobs ∷ []));
    each = both_snoc (λ i js d. (d.number ≡ i) × (d.jobs ≡ js) × AreFresh [] i d.hand.items) lists callers jobs c are.whole are.each
        (number ∙ are.whole, is, record { whole = ap length none; each = λ i a b at_a at_b. absurd cc });
  }

  -- each caller has got its pass of one post more
  pub callers_dealt : (posts : List (Post M S V E G)) (lists : List (Vec (Job W) Global)) (old new : List (Caller M W S V E G)) (post : Post M S V E G) (passes : List (Pass M S V E G))
      → AreCallers posts lists old → length passes ≡ length old → Dealt old passes new → AreDealt post passes → AreCallers (posts ++ post ∷ []) lists new
  callers_dealt posts lists old new post passes are count dealt fresh = record {
    whole = dealt.whole ∙ are.whole;
    each = λ i jobs d at_jobs at_d.
        let within = slice_get_within lists i jobs at_jobs in
        let c = get_within old i (let n = are.whole in omega (arith, within, n)) in
        let b = get_within passes i (let n = are.whole in omega (arith, within, n, count)) in
        let got = dealt.each i b.0 c.0 d b.1 c.1 at_d in
        let was = are.each i jobs c.0 at_jobs c.1 in
        let one : IsFresh post i b.0 = subst (IsFresh post i) (get_or_from_slice_get passes i b.0 b.0 b.1) (fresh i b.0 (slice_get_within passes i b.0 b.1)) in
        (got.number ∙ was.0, got.jobs ∙ was.1, subst (AreFresh (posts ++ post ∷ []) i) (sym got.hand) (fresh_more posts i c.0.hand.items post b.0 was.2 one));
  }

  -- one caller more has got its pass
  pub dealt_more : (n : ℕ) (old mid : List (Caller M W S V E G)) (passes : List (Pass M S V E G)) (b : Pass M S V E G) (c d : Caller M W S V E G) → DealtTo n old passes mid → slice_get passes n ≡ Some b → slice_get mid n ≡ Some c → GotPass c b d → DealtTo (n + 1) old passes (set mid n d)
  dealt_more n old mid passes b c d so at_b at_c got = record {
    whole = length-set mid n d ∙ so.whole;
    first = λ i x y z l at_x at_y at_z. by_place n i
        (λ same.
        let bx : b ≡ x = same_Some b x (sym at_b ∙ ap (slice_get passes) same ∙ at_x) in
        let cy : c ≡ y = same_Some c y (sym at_c ∙ so.others n (omega arith) ∙ ap (slice_get old) same ∙ at_y) in
        let dz : d ≡ z = same_Some d z (sym (get_set_same mid n d (slice_get_within mid n c at_c)) ∙ ap (slice_get (set mid n d)) same ∙ at_z) in
        subst (GotPass y x) dz (subst (λ p. GotPass y p d) bx (subst (λ p. GotPass p b d) cy got)))
        (λ other. so.first i x y z (omega (arith, l, other)) at_x at_y (sym (get_set_other mid n i d other) ∙ at_z));
    others = λ i l. get_set_other mid n i d (λ e. omega (arith, e, l)) ∙ so.others i (omega (arith, l));
  }

  pub dealt_none : (old : List (Caller M W S V E G)) (passes : List (Pass M S V E G)) → DealtTo 0 old passes old
  dealt_none old passes = record { whole = refl; first = λ i b c d l at_b at_c at_d. absurd (omega (arith, l)); others = λ i l. refl }

  pub dealt_all : (n : ℕ) (old new : List (Caller M W S V E G)) (passes : List (Pass M S V E G)) → DealtTo n old passes new → n ≡ length passes → Dealt old passes new
  dealt_all n old new passes so e = record {
    whole = so.whole;
    each = λ i b c d at_b at_c at_d. let l = slice_get_within passes i b at_b in so.first i b c d (omega (arith, l, e)) at_b at_c at_d;
  }
