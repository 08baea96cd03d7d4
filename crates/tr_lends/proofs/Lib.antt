pub mod Once
pub mod PoolLemmas
