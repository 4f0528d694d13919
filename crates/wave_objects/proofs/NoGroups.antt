-- An object of a type of which there are no groups stays as it is.
use Rattle.std.proofs.Common.{◌≡◌, ℕ, List, [], Option, Some, None, refl, ap}
use Rattle.site_base.specs.Data as tree
use Rattle.site_base.specs.Data.{Data}
use Rattle.site_model.specs.PlainSite.{PlainObject}
use Rattle.object_types.specs.Names.{type_named}
use Rattle.object_types.specs.declared.object_type.ObjectType.{ObjectType}
use Rattle.object_types.specs.declared.object_type.ObjectType.TheVariants as object
use Rattle.eval_meaning.specs.States as outcome
use Rattle.eval_meaning.specs.States.{State, Outcome, ◌>>=◌, rule}
use Rattle.eval_meaning.specs.Views.{View, Sight, shown, absent, undecided, sight}
use Rattle.eval_meaning.specs.Views as read
use Rattle.eval_meaning.specs.declared.read.Read.{Read}
use Rattle.object_types.specs.declared.attribute.Attribute.TheVariants as attribute
use Rattle.commit_meaning.specs.Answers.{Answer, answered, diags_in}
use Rattle.commit_meaning.specs.Groups.{group_members, groups_by, grown, host_seen, member_names, member_run, service_names, settled, tree_grown}
use Rattle.commit_meaning.specs.Names.{text_of}
use Rattle.commit_meaning.specs.Starts.{fresh, Trees}

none_added : (d : Data) → tree_grown [] d ≡ d
none_added tree.null = refl
none_added (tree.boolean b) = refl
none_added (tree.number z) = refl
none_added (tree.string t) = refl
none_added (tree.list ds) = refl
none_added (tree.dict ps) = refl

-- no fault
abbrev IsQuiet : {A : Type 0} → Outcome A → Type 0
IsQuiet (outcome.gives a s) = Unit {0}
IsQuiet (outcome.faults l k t rs) = ⊥
IsQuiet (outcome.blocked r rs) = Unit {0}

host_quiet : (d : Data) (r : Read) (x : Sight) (s : State) → IsQuiet (host_seen r x s >>= λ o s1. outcome.gives (service_names d o) s1)
host_quiet d r (shown h) s = tt
host_quiet d r absent s = tt
host_quiet d r undecided s = tt

names_quiet : (view : View) (o : Option ObjectType) (d : Data) (s : State) → IsQuiet (member_names view o d s)
names_quiet view (Some object.Host) d s = tt
names_quiet view (Some object.Service) d s = host_quiet d (read.host (text_of d attribute.HostName)) (sight view (read.host (text_of d attribute.HostName))) s
names_quiet view (Some object.User) d s = tt
names_quiet view (Some object.HostGroup) d s = tt
names_quiet view (Some object.ServiceGroup) d s = tt
names_quiet view (Some object.UserGroup) d s = tt
names_quiet view (Some object.CheckCommand) d s = tt
names_quiet view (Some object.NotificationCommand) d s = tt
names_quiet view (Some object.EventCommand) d s = tt
names_quiet view (Some object.Notification) d s = tt
names_quiet view (Some object.Dependency) d s = tt
names_quiet view (Some object.ScheduledDowntime) d s = tt
names_quiet view (Some object.TimePeriod) d s = tt
names_quiet view (Some object.Endpoint) d s = tt
names_quiet view (Some object.Zone) d s = tt
names_quiet view (Some object.CheckerComponent) d s = tt
names_quiet view (Some object.NotificationComponent) d s = tt
names_quiet view (Some object.FileLogger) d s = tt
names_quiet view (Some object.SyslogLogger) d s = tt
names_quiet view (Some object.ApiListener) d s = tt
names_quiet view (Some object.ApiUser) d s = tt
names_quiet view (Some object.IcingaApplication) d s = tt
names_quiet view None d s = tt

-- it is in no more groups, and nothing is wrong
pub record IsAsBefore (o : PlainObject) (a : Answer (List (List ℕ))) : Type 0 where
  pub same : grown o a ≡ o
  pub quiet : diags_in a ≡ []

pub same_tree : (o : PlainObject) → record o { tree = tree_grown [] o.tree } ≡ o
same_tree o = ap (λ (d : Data). record o { tree = d }) (none_added o.tree)

by_names : (view : View) (o : PlainObject) (x : Outcome (Option Trees)) → IsQuiet x
    → IsAsBefore o (settled (answered o.number (x >>= λ names s. groups_by view o.number [] names s)))
by_names view o (outcome.gives (Some names) s) h = record { same = same_tree o; quiet = refl }
by_names view o (outcome.gives None s) h = record { same = same_tree o; quiet = refl }
by_names view o (outcome.faults l k t rs) h = absurd h
by_names view o (outcome.blocked r rs) h = record { same = refl; quiet = refl }

pub no_groups : (view : View) (o : PlainObject) → IsAsBefore o (group_members view [] o)
unfolding group_members member_run
no_groups view o = by_names view o (member_names view (type_named o.kind) o.tree (fresh view.store rule [])) (names_quiet view (type_named o.kind) o.tree (fresh view.store rule []))
