use Rattle.std.proofs.Common.{◌∙◌, ap}
use Rattle.tr_session_book.proofs.NameLemmas.{lookup-by_name}
use Rattle.tr_session_book.proofs.book.SessionBook.channel.Goals as goal
use Rattle.tr_session_book.specs.Book.{SessionBookState}
use Rattle.tr_session_book.specs.BookSteps.{channel_named}

pub returns : goal.returns
returns g c =
    c.get.ensures.value ∙ lookup-by_name c.args.name.now c.self.inside.channels.entries
    ∙ ap (λ (b : SessionBookState). channel_named c.args.name.now b) c.self.view_is
