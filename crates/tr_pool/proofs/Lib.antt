pub mod FedLemmas
pub mod JudgeLemmas
pub mod ReportLemmas
