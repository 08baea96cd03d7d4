mod EscapeLemmas
mod LineLemmas
mod PageLemmas
mod PictureLemmas
mod RowLemmas
