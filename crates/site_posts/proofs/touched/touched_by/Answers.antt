-- One act more is on a checkable, and at the end each stands once.
use Rattle.std.proofs.Common.{ℕ, List, ◌+◌, Contains, take, sym, ◌∙◌, subst}
use Rattle.std.proofs.lemmas.List.{take_all}
use Rattle.std.proofs.lemmas.List.Elements.{Contains-get_or}
use Rattle.site_posts.proofs.Touching.{AreOn, Touches, all_on_once, here_act, touches_act, touches_list, touches_none}
use Rattle.site_posts.proofs.touched.touched_by.Goals as goal

pub loop-list-init : goal.loop-list-init
loop-list-init c = subst (Touches c.args.lists.now 0) (sym c.new-touched.ensures.items) (touches_none c.args.lists.now)

pub loop-act-preserved : goal.loop-act-preserved
loop-act-preserved c =
    let lists = c.args.lists.now in
    let i = c.loop-list.list-index in
    let list = c.list-item.result in
    let acts = c.deref-act-items.result.now in
    let j = c.loop-act.act-index in
    let act = c.act-item.result in
    let so_far = c.loop-act.invariant in
    let among : Contains list.items act = subst (λ xs. Contains xs act) c.deref-act-items.ensures.value (subst (Contains acts) (sym c.act-item.is) (Contains-get_or acts j act c.loop-act-test.true)) in
    record {
      before = subst (Touches lists i) (sym {A = List ℕ} c.in_ok-push.ensures.items) (touches_act lists i c.loop-act.touched.items list act c.loop-list-test.true c.list-item.is among so_far.before);
      here = subst (λ ks. AreOn ks (take (j + 1) acts)) (sym {A = List ℕ} c.in_ok-push.ensures.items) (here_act c.loop-act.touched.items acts j act c.loop-act-test.true c.act-item.is so_far.here);
    }

pub loop-list-preserved : goal.loop-list-preserved
loop-list-preserved c =
    let so_far = c.loop-act.invariant in
    let touched = c.loop-act.touched.items in
    let acts = c.deref-act-items.result.now in
    let here = subst (AreOn touched) (take_all c.loop-act.act-index acts c.loop-act-test.false ∙ c.deref-act-items.ensures.value) so_far.here in
    touches_list c.args.lists.now c.loop-list.list-index touched c.list-item.result c.loop-list-test.true c.list-item.is so_far.before here

pub returns-clause-all : goal.returns-clause-all
returns-clause-all c = all_on_once c.args.lists.now c.loop-list.list-index c.loop-list.touched.items c.each_once.new.touched.items c.each_once.ensures.keeps c.loop-list-test.false c.loop-list.invariant.all
