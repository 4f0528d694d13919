-- The names that a line can name things by.
use Rattle.std.specs.Prelude.{ℕ, ◌<◌, ◌^◌, List, length}
use Rattle.site_model.specs.PlainSite.{PlainSite, full_names}
use Rattle.site_model.specs.Sound.{AreDistinct, HasNames}
use Rattle.site_text.specs.Entries.{depend_names, notify_names, user_names}
use Rattle.log_text.specs.declared.site_names.SiteNames.{SiteNames}

-- the names of a site's checkables, dependencies, notifications and users, each list in the site's order
pub record PlainNames : Type 0 where
  pub checkables : List (List ℕ)
  pub depends : List (List ℕ)
  pub notifies : List (List ℕ)
  pub users : List (List ℕ)

abbrev pub names_view : SiteNames → PlainNames
names_view n = record {
  checkables = n.checkables.now;
  depends = n.depends;
  notifies = n.notifies;
  users = n.users;
}

abbrev pub names_of : PlainSite → PlainNames
names_of s = record {
  checkables = full_names s;
  depends = depend_names s;
  notifies = notify_names s;
  users = user_names s;
}

-- what looking anything up by its name needs: the checkables have their names, those of the dependencies, the
-- notifications and the users differ among themselves, and 32 bits name each place
pub record HasAllNames (s : PlainSite) : Type 0 where
  pub checkables : HasNames s
  pub depends : AreDistinct (depend_names s)
  pub notifies : AreDistinct (notify_names s)
  pub users : AreDistinct (user_names s)
  pub few_depends : length s.depends < 2 ^ 32
  pub few_notifies : length s.notifies < 2 ^ 32
  pub few_users : length s.users < 2 ^ 32
