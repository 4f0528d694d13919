-- The object of a checkable.
use Rattle.std.proofs.Common.{◌≡◌, ◌∷◌, [], ◌++◌, List, codes, get_or, ap, ◌∙◌}
use Rattle.json.specs.Token as token
use Rattle.serde_json.specs.Data.{array}
use Rattle.checkable_core.proofs.Listed.{spec_is}
use Rattle.checkable_core.specs.Contents.{check_at}
use Rattle.site_model.specs.PlainSite.{PlainCheck, site_view}
use Rattle.site_model.specs.declared.check_spec.CheckSpec.{CheckSpec}
use Rattle.site_keep.specs.Shape.{line_items}
use Rattle.site_keep.specs.Writing.{tokens_of}
use Rattle.site_keep.proofs.WriteLaws.{object_written}
use Rattle.site_keep.proofs.saving.write_checkable.Goals as goal

pub returns : goal.returns
returns c =
    let s = site_view c.args.site.now in
    let k = c.args.checkable in
    let spec = c.index-as_slice-checkable.result in
    let name : c.as_str.result.now ≡ (check_at s k).name =
    c.as_str.ensures ∙ ap (λ (xs : List CheckSpec). (get_or xs k spec).name) c.as_slice.ensures ∙ ap (λ (p : PlainCheck). p.name) (spec_is c.args.site.now.checkables k spec c.requires.own) in (
      object_written c.args.out.now.tokens c.begin_object.new.self.tokens c.key.new.self.tokens c.write.new.out.tokens c.key-2.new.self.tokens c.string.new.self.tokens c.end_object.new.self.tokens
          (token.key (codes "entries")) (token.key (codes "name")) (tokens_of (array (line_items c.args.lines.now))) (token.string (check_at s k).name ∷ [])
          c.in_ok-begin_object.ensures.ok c.in_ok-key.ensures.ok c.in_ok-write.ensures.0 c.in_ok-key-2.ensures.ok (c.in_ok-string.ensures.ok ∙ ap (λ t. c.key-2.new.self.tokens ++ token.string t ∷ []) name) c.in_ok-end_object.ensures.ok,
      c.in_ok-end_object.ensures.room.0 ∙ c.in_ok-string.ensures.room.0 ∙ c.in_ok-key-2.ensures.room.0 ∙ c.in_ok-write.ensures.1 ∙ c.in_ok-key.ensures.room.0 ∙ c.in_ok-begin_object.ensures.room.0,
    )
