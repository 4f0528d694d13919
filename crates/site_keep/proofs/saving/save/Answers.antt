-- The whole text.
use Rattle.std.proofs.Common.{◌≡◌, ◌∷◌, [], ◌++◌, List, ℕ, codes, decimal, ap, ◌∙◌, subst, IfOk}
use Rattle.json.specs.Print.{print}
use Rattle.json.specs.Token as token
use Rattle.json.specs.Token.{Token}
use Rattle.serde_json.specs.Data.{array}
use Rattle.site_model.specs.PlainSite.{site_view}
use Rattle.site_keep.specs.Shape.{saved_items, state_data}
use Rattle.site_keep.specs.Writing.{saved_among, tokens_of}
use Rattle.site_keep.proofs.WriteLaws.{file_text, object_written}
use Rattle.site_keep.proofs.saving.save.Goals as goal

pub returns : goal.returns
returns c =
    let s = site_view c.args.site.now in
    let xs = saved_among s.checkables c.args.lines.now in
    let start : List Token = c.new-out.result.tokens in
    let tokens : c.end_object.new.self.tokens ≡ start ++ tokens_of (state_data xs) =
    object_written start c.begin_object.new.self.tokens c.key.new.self.tokens c.write_checkables.new.out.tokens c.key-2.new.self.tokens c.u64.new.self.tokens c.end_object.new.self.tokens
    (token.key (codes "checkables")) (token.key (codes "version")) (tokens_of (array (saved_items xs))) (token.number (decimal 1) ∷ [])
    c.in_ok-begin_object.ensures.ok c.in_ok-key.ensures.ok c.in_ok-write_checkables.ensures.0 c.in_ok-key-2.ensures.ok c.in_ok-u64.ensures.ok c.in_ok-end_object.ensures.ok in
    let all : c.end_object.new.self.tokens ≡ tokens_of (state_data xs) = tokens ∙ ap (λ ts. ts ++ tokens_of (state_data xs)) c.new-out.ensures.tokens in
    λ hs lines.
    subst (λ (t : List ℕ). IfOk c.text_of.result (λ x. x ≡ t)) (ap (λ ts. print ts ++ 10 ∷ []) all ∙ file_text s c.args.lines.now hs lines) c.text_of.ensures
