pub mod SiteAnswers
