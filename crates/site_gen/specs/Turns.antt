-- The turns of the generated site.
use Rattle.std.specs.Prelude.{ℕ, ◌+◌, ◌*◌, ◌%◌, List, [], ◌++◌, codes, map}
use Rattle.std.specs.Fmt.{decimal}
use Rattle.run_meaning.specs.Turns.{from_on}
use Rattle.site_edge.specs.declared.turn.Turn.{Turn}
use Rattle.site_gen.specs.Root.{host_name}

-- in a turn of this number, the line of the result of a host's service
abbrev pub result_line : ℕ → ℕ → List ℕ
result_line k i = codes "[1] PROCESS_SERVICE_CHECK_RESULT;" ++ (host_name i ++ (codes ";s;" ++ (decimal ((i + k) % 4) ++ codes ";x")))

-- over so many hosts, the turn of this number
abbrev pub turn_of : ℕ → ℕ → Turn
turn_of n k = record { moment = 100 * k; reports = []; lines = map (result_line k) (from_on 0 n) }

-- all of them
unfoldable pub all_turns : ℕ → List Turn
all_turns n = map (turn_of n) (from_on 1 6)
