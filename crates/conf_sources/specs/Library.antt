-- The texts of the built-in library.
use Rattle.std.specs.Prelude.{ℕ, List, [], ◌∷◌, ◌++◌, ◌||◌, Bool, codes, Option, Some, None, if◌then◌else◌}
use Rattle.std.specs.List.{flat_map}
use Rattle.std.specs.Str.{bytes_eq}

-- a command of the library: its name, its program, and its arguments as they are written
pub record Command : Type 0 where
  pub name : List ℕ
  pub program : List ℕ
  pub arguments : List ℕ

abbrev pub command : List ℕ → List ℕ → List ℕ → Command
command n p a = record { name = n; program = p; arguments = a }

-- in the folder that the site names `PluginDir`
abbrev pub command_line : Command → List ℕ
command_line c =
    codes "object CheckCommand \"" ++ c.name ++ codes "\" { command = [ PluginDir + \"/" ++ c.program ++ codes "\" ]; arguments = {" ++ c.arguments ++ codes "} }\n"

abbrev pub plugins : List Command
plugins =
    command (codes "hostalive") (codes "check_ping") (codes " \"-H\" = \"$address$\", \"-w\" = \"$ping_warn$\", \"-c\" = \"$ping_crit$\" ") ∷
    command (codes "ping4") (codes "check_ping") (codes " \"-H\" = \"$address$\", \"-w\" = \"$ping_warn$\", \"-c\" = \"$ping_crit$\" ") ∷
    command (codes "ping6") (codes "check_ping") (codes " \"-H\" = \"$address6$\", \"-w\" = \"$ping_warn$\", \"-c\" = \"$ping_crit$\" ") ∷
    command (codes "http") (codes "check_http") (codes " \"-I\" = \"$address$\", \"-u\" = \"$http_uri$\" ") ∷
    command (codes "ssh") (codes "check_ssh") (codes " \"-H\" = \"$address$\" ") ∷
    command (codes "disk") (codes "check_disk") (codes " \"-p\" = \"$disk_partitions$\" ") ∷
    command (codes "load") (codes "check_load") (codes " ") ∷
    command (codes "procs") (codes "check_procs") (codes " ") ∷
    command (codes "swap") (codes "check_swap") (codes " ") ∷
    command (codes "users") (codes "check_users") (codes " ") ∷
    command (codes "apt") (codes "check_apt") (codes " ") ∷
    command (codes "dummy") (codes "check_dummy") (codes " \"state\" = { value = \"$dummy_state$\", skip_key = true } ") ∷ []

abbrev pub itl_text : List ℕ
itl_text = codes "object CheckCommand \"icinga\" { command = [ \"true\" ] }\n"

-- one command a line
unfoldable pub plugins_text : List ℕ
plugins_text = flat_map command_line plugins

-- parts of the library that are empty
abbrev pub is_empty_part : List ℕ → Bool
is_empty_part name = bytes_eq name (codes "plugins-contrib") || bytes_eq name (codes "manubulon") || bytes_eq name (codes "windows-plugins") || bytes_eq name (codes "nscp")

-- the text of a part of the library
abbrev pub library_text : List ℕ → Option (List ℕ)
library_text name =
    if bytes_eq name (codes "itl") then Some itl_text
    else if bytes_eq name (codes "plugins") then Some plugins_text
    else if is_empty_part name then Some []
    else None
