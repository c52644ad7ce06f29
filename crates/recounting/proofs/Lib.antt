mod CountedAgain
