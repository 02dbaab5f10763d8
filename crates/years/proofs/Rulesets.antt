-- What the functions of this crate use, for their attributes.
-- Assumes nothing.
use Rattle.years.proofs.TableLaws.{table_refused, table_read, table_carbon}
use Rattle.years.proofs.TakenLaws.{taken_refused, taken_read, taken_summed}
use Rattle.plans.proofs.RecordsLaws.{records_refused, records_read, records_summed, records_found, found-hold}

-- a year's activity records, or those of the plan
pub ruleset records = (records_refused, records_read, records_summed, records_found, found-hold)

-- a year's tables, by their carbon, and its records
pub ruleset parts = (table_refused, table_read, table_carbon, taken_refused, taken_read, taken_summed)
