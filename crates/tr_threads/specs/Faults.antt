-- What was missing for threads, by its code and its name.
use Rattle.std.specs.Prelude.{ℕ, List, codes}
use Rattle.tr_threads.specs.declared.faults.PoolError.{PoolError}
use Rattle.tr_threads.specs.declared.faults.PoolError.TheVariants.{NoThread, NoMemory}

abbrev pub pool_error_code : PoolError → List ℕ
pool_error_code NoThread = codes "U1"
pool_error_code NoMemory = codes "U2"

abbrev pub pool_error_name : PoolError → List ℕ
pool_error_name NoThread = codes "NoThread"
pool_error_name NoMemory = codes "NoMemory"
