mod LetterLaws
