-- The paper's tables and limits, computed from the definitions.
-- Assumes nothing.
use mathlib.Core.Path.{refl}
use Rattle.tables.specs.Table.{at}
use Rattle.kinds.specs.Kinds.{named, uses_of}
use Rattle.little.specs.Little.{little}
use Rattle.runfile.specs.File.{read_bytes, read_count, read_counter, read_cell, read_step, read_items, read_file}
use Rattle.claims.specs.Tables.{fault_in, one_step, row_of, nodes_of, cells_of, Tabled}

pub tabled : Tabled
unfolding at named uses_of little read_bytes read_count read_counter read_cell read_step read_items read_file fault_in one_step row_of nodes_of cells_of
tabled = record { kinds = refl; cut_kinds = refl; unknown_kinds = refl; faults = refl; answers = refl }
