pub mod FeedLemmas
pub mod JoinLemmas
pub mod SideLemmas
pub mod StartLemmas
