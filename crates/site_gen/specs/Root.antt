-- The one file of the generated site.
use Rattle.std.specs.Prelude.{ℕ, ◌/◌, List, [], ◌++◌, codes, nat_eq, if◌then◌else◌}
use Rattle.std.specs.Fmt.{decimal}
use Rattle.std.specs.List.{flat_map}
use Rattle.run_meaning.specs.Turns.{from_on}

abbrev pub host_name : ℕ → List ℕ
host_name i = codes "h" ++ decimal i

-- the variable that names the host on which this one depends, the one of half its number, rounded down; the first has none
abbrev pub parent_text : ℕ → List ℕ
parent_text i = if nat_eq i 0 then [] else codes "; vars.p = \"" ++ (host_name (i / 2) ++ codes "\"")

abbrev pub host_line : ℕ → List ℕ
host_line i = codes "object Host \"" ++ (host_name i ++ (codes "\" { check_command = \"c\"; max_check_attempts = 2" ++ (parent_text i ++ codes " }\n")))

-- before the hosts: the commands, and the user that is told
abbrev pub commands_text : List ℕ
commands_text =
    codes "object CheckCommand \"c\" { command = [ \"true\" ] }\n"
    ++ (codes "object NotificationCommand \"n\" { command = [ \"true\" ] }\n"
    ++ codes "object User \"u\" { }\n")

-- behind them: what gives each a service with a notification, and each but the first its dependency
abbrev pub services_text : List ℕ
services_text = codes "apply Service \"s\" { check_command = \"c\"; assign where true }\n"

abbrev pub dependencies_text : List ℕ
dependencies_text = codes "apply Dependency \"d\" to Host { parent_host_name = host.vars.p; assign where host.vars.p }\n"

abbrev pub notifications_text : List ℕ
notifications_text = codes "apply Notification \"m\" to Service { command = \"n\"; users = [ \"u\" ]; assign where true }\n"

abbrev pub rules_text : List ℕ
rules_text = services_text ++ (dependencies_text ++ notifications_text)

-- with so many hosts
abbrev pub root_text : ℕ → List ℕ
root_text n = commands_text ++ (flat_map host_line (from_on 0 n) ++ rules_text)
